-- What is kept of a trace is a trace.
use Rattle.std.proofs.Common.{◌≡◌, ◌≢◌, ℕ, List, ◌++◌, map, true, refl, ap, sym, ◌∙◌, arith, inl, inr, subst}
use Rattle.std.specs.Prelude.{Some, IsSome, is_some}
use Rattle.std.specs.Cmp.Lexicographic.{slice_cmp}
use Rattle.std.specs.declared.cmp.Ordering.TheVariants.{Less}
use Rattle.std.specs.List.{All, Contains, flat_map}
use Rattle.std.specs.Ordering.{nat_cmp}
use Rattle.std.proofs.lemmas.Bool.{and_from}
use Rattle.std.proofs.lemmas.List.{length-map}
use Rattle.std.proofs.lemmas.List.Elements.{All-contains, Contains-append_cases, Contains-append_left, Contains-append_right}
use Rattle.std.proofs.lemmas.Option.{same_Some}
use Rattle.trace_semantics.specs.declared.operation.Op.{Op}
use Rattle.trace_semantics.specs.declared.operation.OpName.{OpName}
use Rattle.trace_semantics.specs.declared.trace.Process.{Process}
use Rattle.trace_semantics.specs.Operation.{location_of}
use Rattle.trace_semantics.specs.PairOrder.{pair_order, ArePairsRising}
use Rattle.trace_semantics.specs.Trace.{TraceValue, IsTrace, operation_at, is_written_name, is_written_op, is_written_process, is_written_pair, locations_of}
use Rattle.trace_semantics.proofs.ElementLemmas.{pass_all, from_map}
use Rattle.trace_semantics.proofs.DistinctLemmas.{few_named}
use Rattle.restriction.specs.Left.{new_name, new_pair, left_process}
use Rattle.restriction.proofs.LeftLemmas.{IsOld, one_old, known_old}
use Rattle.restriction.proofs.OrderedPairLemmas.{all_from, pairs_mapped, pair_less}
use Rattle.restriction.proofs.TraceLeftLemmas.{StaysWell, op_listed, few_in_all, distinct_names, origins_known, spans_fine, written_process, known_new, name_written, written_name, location_there}
use Rattle.reducer.specs.Reduction.{kept_op, is_kept, kept_trace}
use Rattle.reducer.proofs.DroppedReads.InterleavingLemmas.{pair_known, first_in_pair, second_in_pair}
use Rattle.reducer.proofs.KeptTrace.KeptLemmas.{kept_known, kept_whole, kept_spans}
use Rattle.reducer.proofs.KeptTrace.PairLemmas.{pair_earlier}
use Rattle.reducer.proofs.DroppedReads.ReadLemmas.{named_by_origin}

-- what stays of an operation is the operation
stays_whole : (t : TraceValue) (n : OpName) (new : Op) → kept_op t n ≡ Some new → operation_at t n ≡ Some new
stays_whole t n new e = sym (kept_whole t n (ap is_some e)) ∙ e

stays_same : (t : TraceValue) (n : OpName) (op new : Op) → operation_at t n ≡ Some op → kept_op t n ≡ Some new → new ≡ op
stays_same t n op new e f = same_Some new op (sym (stays_whole t n new f) ∙ e)

kept_stays_well : (t : TraceValue) → IsTrace t → StaysWell t (kept_op t)
kept_stays_well t ok = record {
  known = kept_known t;
  location = λ n op new e f. ap location_of (stays_same t n op new e f);
  written = λ n op new e f w. ap is_written_op (stays_same t n op new e f) ∙ w;
  origin = λ n new w f e. named_by_origin t ok new w (op_listed t n new (stays_whole t n new f)) e;
  spans = kept_spans t;
}

module _ (t : TraceValue) (ok : IsTrace t) where
  well : StaysWell t (kept_op t)
  well = kept_stays_well t ok

  record Pair (pair : OpName × OpName) : Type 0 where
    known : IsSome (operation_at t pair.0) × IsSome (operation_at t pair.1)
    first : is_kept t pair.0 ≡ true
    second : is_kept t pair.1 ≡ true

  pair_of : (pair : OpName × OpName) → Contains t.before pair → Pair pair
  pair_of pair c = record { known = pair_known t ok pair c; first = first_in_pair t ok pair.0 pair.1 c; second = second_in_pair t ok pair.0 pair.1 c }

  pairs_known : All (λ (pair : OpName × OpName). IsSome (operation_at (kept_trace t) pair.0) × IsSome (operation_at (kept_trace t) pair.1)) (kept_trace t).before
  pairs_known = all_from (λ (pair : OpName × OpName). IsSome (operation_at (kept_trace t) pair.0) × IsSome (operation_at (kept_trace t) pair.1)) (kept_trace t).before (λ pair c.
      let at = from_map (new_pair (kept_op t)) t.before pair c in
      let kept = pair_of at.0 at.1 in
      subst (λ (p : OpName × OpName). IsSome (operation_at (kept_trace t) p.0) × IsSome (operation_at (kept_trace t) p.1)) at.2
      (known_new t (kept_trace t) ok (kept_op t) refl well at.0.0 kept.first, known_new t (kept_trace t) ok (kept_op t) refl well at.0.1 kept.second))

  pairs_apart : All (λ (pair : OpName × OpName). pair.0 ≢ pair.1) (kept_trace t).before
  pairs_apart = all_from (λ (pair : OpName × OpName). pair.0 ≢ pair.1) (kept_trace t).before (λ pair c e.
      let at = from_map (new_pair (kept_op t)) t.before pair c in
      let kept = pair_of at.0 at.1 in
      let first : new_name (kept_op t) at.0.0 ≡ pair.0 = ap (λ (p : OpName × OpName). p.0) at.2 in
      let second : new_name (kept_op t) at.0.1 ≡ pair.1 = ap (λ (p : OpName × OpName). p.1) at.2 in
      let a = known_old t ok (kept_op t) at.0.0 kept.known.0 kept.first in
      let b = known_old t ok (kept_op t) at.0.1 kept.known.1 kept.second in
      let same : new_name (kept_op t) at.0.0 ≡ new_name (kept_op t) at.0.1 = first ∙ e ∙ sym second in
      All-contains (λ (p : OpName × OpName). p.0 ≢ p.1) t.before at.0 ok.before_apart at.1
      (one_old t (kept_op t) (new_name (kept_op t) at.0.1) at.0.0 at.0.1 (subst (λ x. IsOld t (kept_op t) x at.0.0) same a) b))

  pairs_rise : ArePairsRising (kept_trace t).processes (kept_trace t).before
  pairs_rise =
      pairs_mapped (λ (x y : OpName × OpName). slice_cmp nat_cmp (pair_order t.processes x) (pair_order t.processes y) ≡ Less)
      (λ (x y : OpName × OpName). slice_cmp nat_cmp (pair_order (kept_trace t).processes x) (pair_order (kept_trace t).processes y) ≡ Less) (new_pair (kept_op t)) t.before ok.before_order
      (λ x y c d less. let kept = pair_of y d in pair_less (kept_op t) t.processes (kept_trace t).processes x y refl kept.first kept.second (pair_earlier t x y (pair_known t ok x c) kept.known less))

  written_pair : (pair : OpName × OpName) → Contains (kept_trace t).before pair → is_written_pair pair ≡ true
  written_pair pair c =
      let at = from_map (new_pair (kept_op t)) t.before pair c in
      let kept = pair_of at.0 at.1 in
      let first = name_written t (kept_trace t) ok (kept_op t) refl well at.0.0 kept.known.0 in
      let second = name_written t (kept_trace t) ok (kept_op t) refl well at.0.1 kept.known.1 in
      ap is_written_pair (sym at.2) ∙ and_from (is_written_name (new_name (kept_op t) at.0.0)) (is_written_name (new_name (kept_op t) at.0.1))
      (written_name t (kept_trace t) ok (kept_op t) refl well at.0.0 kept.first first) (written_name t (kept_trace t) ok (kept_op t) refl well at.0.1 kept.second second)

  -- the locations of the kept trace are locations of the trace
  abbrev in_processes : List Process → List (List ℕ)
  in_processes ps = flat_map (λ (p : Process). map location_of p.operations) ps

  locations_there : (q : List ℕ) → Contains (locations_of (kept_trace t)) q → Contains (locations_of t) q
  locations_there q c =
      let initial : List (List ℕ) = map (λ (entry : List ℕ × ℕ). entry.0) t.initial in
      let final_ones : List (List ℕ) = map (λ (entry : List ℕ × ℕ). entry.0) t.final_values in
      elim (Contains-append_cases initial (final_ones ++ in_processes (kept_trace t).processes) q c) [
        | inl here ↦ Contains-append_left initial (final_ones ++ in_processes t.processes) q here
        | inr more ↦ elim (Contains-append_cases final_ones (in_processes (kept_trace t).processes) q more) [
          | inl here ↦ Contains-append_right initial (final_ones ++ in_processes t.processes) q (Contains-append_left final_ones (in_processes t.processes) q here)
          | inr there ↦ Contains-append_right initial (final_ones ++ in_processes t.processes) q (Contains-append_right final_ones (in_processes t.processes) q (location_there t (kept_trace t) ok (kept_op t) refl well q there))
        ]
      ]

pub kept_is_trace : (t : TraceValue) → IsTrace t → IsTrace (kept_trace t)
kept_is_trace t ok =
    let well = kept_stays_well t ok in
    let processes = length-map t.processes (left_process (kept_op t)) in
    let pairs = length-map t.before (new_pair (kept_op t)) in
    record {
      distinct = distinct_names t (kept_trace t) ok (kept_op t) refl well;
      few_processes = omega (arith, processes, ok.few_processes);
      few_operations = omega (arith, few_in_all (kept_op t) t.processes, ok.few_operations);
      initial = ok.initial;
      final_values = ok.final_values;
      few_pairs = omega (arith, pairs, ok.few_pairs);
      known = pairs_known t ok;
      written = record {
        processes = pass_all is_written_process (kept_trace t).processes (written_process t (kept_trace t) ok (kept_op t) refl well);
        initial = ok.written.initial;
        final_values = ok.written.final_values;
        before = pass_all is_written_pair (kept_trace t).before (written_pair t ok);
      };
      initial_order = ok.initial_order;
      final_order = ok.final_order;
      before_apart = pairs_apart t ok;
      origins = origins_known t (kept_trace t) ok (kept_op t) refl well;
      spans = spans_fine t (kept_trace t) ok (kept_op t) refl well;
      before_order = pairs_rise t ok;
      few_locations = omega (arith, few_named (locations_of (kept_trace t)) (locations_of t) (locations_there t ok), ok.few_locations);
    }
