-- How many locations are named.
use Rattle.std.proofs.Common.{◌≡◌, ℕ, List, [], ◌∷◌, ◌++◌, map, refl, inl, inr, ap, sym, ◌∙◌, subst}
use Rattle.std.specs.Prelude.{Option, Some, None}
use Rattle.std.specs.List.{Contains, filter, filter_map, cons_option, flat_map}
use Rattle.std.specs.List.Sorted.{IsPermutation}
use Rattle.std.proofs.lemmas.List.Elements.{Contains-append_cases}
use Rattle.std.proofs.lemmas.List.Sorted.{Contains-permutation, IsPermutation-sym}
use Rattle.trace_semantics.specs.declared.operation.Op.{Op}
use Rattle.trace_semantics.specs.declared.operation.Op.TheVariants.{Read as ReadOp, Write as WriteOp, Update as UpdateOp}
use Rattle.trace_semantics.specs.declared.trace.Process.{Process}
use Rattle.trace_text.specs.Entry.{op_statement, init_statement, final_statement}
use Rattle.trace_text.specs.Gathered.{is_init, is_final, is_of_process, process_statements}
use Rattle.trace_semantics.specs.Operation.{location_of}
use Rattle.trace_text.specs.Statement.{Statement, Proc}
use Rattle.trace_semantics.specs.Trace.{TraceValue, locations_of}
use Rattle.trace_text.specs.TraceFault.{location_named}
use Rattle.trace_semantics.proofs.ElementLemmas.{none_in, cases_in, head_in, tail_in, from_filter, from_map, to_map, from_flat_map, to_flat_map}

to_filter_map : {A B : Type 0} (f : A → Option B) (xs : List A) (x : A) (y : B) → Contains xs x → f x ≡ Some y → Contains (filter_map f xs) y
to_filter_map f [] x y c e = absurd (none_in x c)
to_filter_map {A} {B} f (z ∷ zs) x y c e = elim (cases_in z zs x c) [
  | inl s ↦ subst (λ (o : Option B). Contains (cons_option o (filter_map f zs)) y) (sym (ap f s ∙ e)) (head_in y (filter_map f zs))
  | inr d ↦ behind (f z) (filter_map f zs) y (to_filter_map f zs x y d e)
]
  where
    behind : (o : Option B) (ys : List B) (y : B) → Contains ys y → Contains (cons_option o ys) y
    behind None ys y c = c
    behind (Some z) ys y c = tail_in z ys y c

pub op_named : (op : Op) → location_named (op_statement op) ≡ Some (location_of op)
op_named (ReadOp a d o span) = refl
op_named (WriteOp a d span) = refl
op_named (UpdateOp a d e o span) = refl

-- a location of the trace is one that a statement names
pub named_by_some : (ss : List Statement) (t : TraceValue) (initial finals : List (List ℕ × ℕ)) → IsPermutation initial t.initial → IsPermutation finals t.final_values → filter is_init ss ≡ map init_statement initial → filter is_final ss ≡ map final_statement finals →
    filter is_of_process ss ≡ flat_map process_statements t.processes → (q : List ℕ) → Contains (locations_of t) q → Contains (filter_map location_named ss) q
named_by_some ss t initial finals m n i f p q c =
    elim (Contains-append_cases (map (λ (entry : List ℕ × ℕ). entry.0) t.initial) (map (λ (entry : List ℕ × ℕ). entry.0) t.final_values ++ flat_map (λ (r : Process). map location_of r.operations) t.processes) q c) [
      | inl here ↦ (
          let found = from_map (λ (entry : List ℕ × ℕ). entry.0) t.initial q here in
          let there = Contains-permutation t.initial initial found.0 (IsPermutation-sym initial t.initial m) found.1 in
          let said : Contains ss (init_statement found.0) = (from_filter is_init ss (init_statement found.0) (subst (λ (l : List Statement). Contains l (init_statement found.0)) (sym i) (to_map init_statement initial found.0 there))).0 in
          to_filter_map location_named ss (init_statement found.0) q said (ap Some found.2))
      | inr more ↦ elim (Contains-append_cases (map (λ (entry : List ℕ × ℕ). entry.0) t.final_values) (flat_map (λ (r : Process). map location_of r.operations) t.processes) q more) [
        | inl here ↦ (
            let found = from_map (λ (entry : List ℕ × ℕ). entry.0) t.final_values q here in
            let there = Contains-permutation t.final_values finals found.0 (IsPermutation-sym finals t.final_values n) found.1 in
            let said : Contains ss (final_statement found.0) = (from_filter is_final ss (final_statement found.0) (subst (λ (l : List Statement). Contains l (final_statement found.0)) (sym f) (to_map final_statement finals found.0 there))).0 in
            to_filter_map location_named ss (final_statement found.0) q said (ap Some found.2))
        | inr d ↦ (
            let at = from_flat_map (λ (r : Process). map location_of r.operations) t.processes q d in
            let op = from_map location_of at.0.operations q at.2 in
            let listed : Contains (flat_map process_statements t.processes) (op_statement op.0) = to_flat_map process_statements t.processes at.0 (op_statement op.0) at.1 (tail_in (Proc at.0.name) (map op_statement at.0.operations) (op_statement op.0) (to_map op_statement at.0.operations op.0 op.1)) in
            let said : Contains ss (op_statement op.0) = (from_filter is_of_process ss (op_statement op.0) (subst (λ (l : List Statement). Contains l (op_statement op.0)) (sym p) listed)).0 in
            to_filter_map location_named ss (op_statement op.0) q said (op_named op.0 ∙ ap Some op.2))
      ]
    ]
