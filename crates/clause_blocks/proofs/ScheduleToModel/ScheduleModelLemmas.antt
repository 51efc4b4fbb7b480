-- The truth values that a legal schedule gives the variables are a model.
use Rattle.std.proofs.Common.{◌≡◌, ◌⊎◌, ℕ, ◌+◌, ◌-◌, ◌<◌, ℤ, pos, neg_ℤ, List, [], ◌∷◌, length, map, Bool, true, false, not, ◌||◌, refl, ap, sym, ◌∙◌, arith, inl, inr, subst}
use Rattle.std.specs.Prelude.{◌≢◌, ◌==◌, Option, Some, None}
use Rattle.std.specs.List.{Contains, filter, flat_map, list_all}
use Rattle.std.proofs.lemmas.Bool.{and_parts, and_from, eqb-true, or_cases, or_right}
use Rattle.dimacs.specs.Assignment.{makes_true, makes_some}
use Rattle.trace_semantics.specs.declared.operation.OpName.{OpName}
use Rattle.trace_semantics.specs.Interleaving.{StandsBefore}
use Rattle.trace_semantics.specs.Legal.{IsLegal}
use Rattle.trace_semantics.specs.Trace.{TraceValue, IsTrace, operation_names, operation_count}
use Rattle.trace_semantics.proofs.ElementLemmas.{all_pass, pass_all, passes_some, head_in, cases_in, none_in, from_map, to_map, from_filter, from_flat_map, from_range}
use Rattle.trace_semantics.proofs.NameLemmas.{same_bytes}
use Rattle.var_layout.specs.declared.candidate.Candidate.{Candidate}
use Rattle.var_layout.specs.declared.candidate.Candidate.TheVariants.{InitialValue, Writer}
use Rattle.var_layout.specs.KnownPairs.{known_pairs}
use Rattle.var_layout.specs.Numbers.{numbers, name_at, others, other_writers, in_one_process, share_process}
use Rattle.var_layout.specs.OrderVariables.{numbers_above}
use Rattle.var_layout.proofs.KnownPairs.SaidLemmas.{listed_known, pair_apart}
use Rattle.clause_blocks.specs.Blocks.{stands_before, implies, program_order, no_cycle, transitivity_from, transitivity, before_clauses}
use Rattle.clause_blocks.proofs.ModelToSchedule.ModelClauseLemmas.{Meets, order_by}
use Rattle.clause_blocks.proofs.NumbersOfNames.OperationNumberLemmas.{get_stands, names_rise, number_within}
use Rattle.clause_blocks.proofs.NumbersOfNames.OrderLiteralLemmas.{negation, lit_negated, turned}
use Rattle.clause_blocks.proofs.ScheduleToModel.ScheduleOrderLemmas.{ahead_in, stands_numbered, stands_either, schedule_trans}
use Rattle.clause_blocks.proofs.ScheduleToModel.ScheduleValueLemmas.{meets, truth, order_is}

-- one true literal makes the clause true
pub first_makes : (value : ℕ → Bool) (a : ℤ) (rest : List ℤ) → makes_true value a ≡ true → makes_some value (a ∷ rest) ≡ true
first_makes value a rest h = passes_some (makes_true value) (a ∷ rest) a (head_in a rest) h

pub rest_makes : (value : ℕ → Bool) (a : ℤ) (rest : List ℤ) → makes_some value rest ≡ true → makes_some value (a ∷ rest) ≡ true
rest_makes value a rest h = or_right (makes_true value a) (makes_some value rest) h

implies_by : (value : ℕ → Bool) (v : ℕ) (literals : List ℤ) (b : Bool) → 0 < v → value v ≡ b → (value v ≡ true → makes_some value literals ≡ true) → makes_some value (implies v literals) ≡ true
implies_by value v literals true h e more = rest_makes value (neg_ℤ (pos v)) literals (more e)
implies_by value v literals false h e more = first_makes value (neg_ℤ (pos v)) literals (negation value v h ∙ ap not e)

pub implies_makes : (value : ℕ → Bool) (v : ℕ) (literals : List ℤ) → 0 < v → (value v ≡ true → makes_some value literals ≡ true) → makes_some value (implies v literals) ≡ true
implies_makes value v literals h more = implies_by value v literals (value v) h refl more

-- one true variable of some
pub variable_makes : {A : Type 0} (value : ℕ → Bool) (variable : A → ℕ) (xs : List A) (x : A) → Contains xs x → value (variable x) ≡ true → makes_some value (map (λ y. pos (variable y)) xs) ≡ true
variable_makes value variable xs x c h = passes_some (makes_true value) (map (λ y. pos (variable y)) xs) (pos (variable x)) (to_map (λ y. pos (variable y)) xs x c) h

-- the meaning of a candidate and its test
or_from : (a b : Bool) → (a ≡ true) ⊎ (b ≡ true) → (a || b) ≡ true
or_from true b h = refl
or_from false b (inl h) = absurd (cc)
or_from false b (inr h) = h

pub to_meets : (ahead : ℕ → ℕ → Bool) (t : TraceValue) (r : ℕ) (c : Candidate) → Meets ahead t r c → meets ahead t r c ≡ true
to_meets ahead t r InitialValue m = pass_all (ahead r) (other_writers t r) m
to_meets ahead t r (Writer w) m =
    and_from (ahead w r) (list_all (λ v. ahead v w || ahead r v) (others w (other_writers t r))) m.0
    (pass_all (λ v. ahead v w || ahead r v) (others w (other_writers t r)) (λ v c. or_from (ahead v w) (ahead r v) (m.1 v c)))

pub from_meets : (ahead : ℕ → ℕ → Bool) (t : TraceValue) (r : ℕ) (c : Candidate) → meets ahead t r c ≡ true → Meets ahead t r c
from_meets ahead t r InitialValue h = all_pass (ahead r) (other_writers t r) h
from_meets ahead t r (Writer w) h =
    let parts = and_parts (ahead w r) (list_all (λ v. ahead v w || ahead r v) (others w (other_writers t r))) h in
    (parts.0, λ v c. or_cases (ahead v w) (ahead r v) (all_pass (λ u. ahead u w || ahead r u) (others w (other_writers t r)) parts.1 v c))

-- two names of one process
record ShareProcess (first second : Option OpName) : Type 0 where
  pub m : OpName
  pub n : OpName
  pub first_is : first ≡ Some m
  pub second_is : second ≡ Some n
  pub same : m.process ≡ n.process

shared : (first second : Option OpName) → share_process first second ≡ true → ShareProcess first second
shared None second h = absurd (cc)
shared (Some m) None h = absurd (cc)
shared (Some m) (Some n) h = record { m = m; n = n; first_is = refl; second_is = refl; same = same_bytes m.process n.process h }

pub no_length : {A : Type 0} (xs : List A) (x : A) → Contains xs x → (length xs == 0) ≡ true → ⊥
no_length [] x c h = none_in x c
no_length (y ∷ ys) x c h = absurd (let e = eqb-true (length (y ∷ ys)) 0 h in omega (arith, e))

module _ (t : TraceValue) (names : List OpName) (ok : IsTrace t) (legal : IsLegal t names) where
  abbrev pub values : ℕ → Bool
  values = truth (ahead_in t names) t

  pub literal_is : (i j : ℕ) (m n : OpName) → i ≢ j → name_at t i ≡ Some m → name_at t j ≡ Some n → order_by values t i j ≡ ahead_in t names i j
  literal_is i j m n d e f = order_is t names ok legal.interleaving i j d (number_within t i m e) (number_within t j n f)

  -- program order
  next_true : (i : ℕ) → in_one_process t i (i + 1) ≡ true → order_by values t i (i + 1) ≡ true
  next_true i h =
      let both = shared (name_at t i) (name_at t (i + 1)) h in
      let apart : i ≢ i + 1 = λ e. omega (arith, e) in
      let rises = names_rise t ok both.m both.n (get_stands (operation_names t) i (i + 1) both.m both.n (omega arith) both.first_is both.second_is) both.same in
      literal_is i (i + 1) both.m both.n apart both.first_is both.second_is ∙ elim (stands_either t names ok legal.interleaving i (i + 1) both.m both.n apart both.first_is both.second_is) [
        | inl s ↦ stands_numbered t names ok legal.interleaving i (i + 1) both.m both.n both.first_is both.second_is s
        | inr s ↦ absurd (let falls = legal.interleaving.program_order both.n both.m s (sym both.same) in omega (arith, rises, falls))
      ]

  pub program_true : (c : List ℤ) → Contains (program_order t) c → makes_some values c ≡ true
  program_true c d =
      let at = from_map (λ (i : ℕ). stands_before t i (i + 1) ∷ []) (filter (λ (i : ℕ). in_one_process t i (i + 1)) (numbers t)) c d in
      let listed = from_filter (λ (i : ℕ). in_one_process t i (i + 1)) (numbers t) at.0 at.1 in
      subst (λ l. makes_some values l ≡ true) at.2 (first_makes values (stands_before t at.0 (at.0 + 1)) [] (next_true at.0 listed.1))

  -- pairs that the trace says
  pub pairs_true : (c : List ℤ) → Contains (before_clauses t) c → makes_some values c ≡ true
  pairs_true c d =
      let at = from_map (λ (pair : ℕ × ℕ). stands_before t pair.0 pair.1 ∷ []) (known_pairs t) c d in
      let known = listed_known t ok at.0.0 at.0.1 at.1 in
      let apart = (pair_apart t ok at.0 at.1).2 in
      let stands : StandsBefore names known.first known.second = legal.interleaving.known_order known.first known.second known.known in
      let literal = literal_is at.0.0 at.0.1 known.first known.second apart known.first_at known.second_at ∙ stands_numbered t names ok legal.interleaving at.0.0 at.0.1 known.first known.second known.first_at known.second_at stands in
      subst (λ l. makes_some values l ≡ true) at.2 (first_makes values (stands_before t at.0.0 at.0.1) [] literal)

  -- transitivity
  module _ (i j k : ℕ) (ij : i < j) (jk : j < k) (within : k < operation_count t) where
    side_is : (a b : ℕ) → a ≢ b → a < operation_count t → b < operation_count t → order_by values t a b ≡ ahead_in t names a b
    side_is a b d h l = order_is t names ok legal.interleaving a b d h l

    first_no_cycle : (a b : Bool) → order_by values t i j ≡ a → order_by values t j k ≡ b →
        makes_some values (neg_ℤ (stands_before t i j) ∷ neg_ℤ (stands_before t j k) ∷ stands_before t i k ∷ []) ≡ true
    first_no_cycle false b e f = first_makes values (neg_ℤ (stands_before t i j)) (neg_ℤ (stands_before t j k) ∷ stands_before t i k ∷ []) (lit_negated values (operation_count t) i j ij ∙ ap not e)
    first_no_cycle true false e f =
        rest_makes values (neg_ℤ (stands_before t i j)) (neg_ℤ (stands_before t j k) ∷ stands_before t i k ∷ [])
        (first_makes values (neg_ℤ (stands_before t j k)) (stands_before t i k ∷ []) (lit_negated values (operation_count t) j k jk ∙ ap not f))
    first_no_cycle true true e f =
        rest_makes values (neg_ℤ (stands_before t i j)) (neg_ℤ (stands_before t j k) ∷ stands_before t i k ∷ [])
        (rest_makes values (neg_ℤ (stands_before t j k)) (stands_before t i k ∷ [])
        (first_makes values (stands_before t i k) [] (side_is i k (λ h. omega (arith, h, ij, jk)) (omega (arith, ij, jk, within)) within
        ∙ schedule_trans t names ok legal.interleaving i j k (omega (arith, ij, jk, within)) (omega (arith, jk, within)) within
        (sym (side_is i j (λ h. omega (arith, h, ij)) (omega (arith, ij, jk, within)) (omega (arith, jk, within))) ∙ e)
        (sym (side_is j k (λ h. omega (arith, h, jk)) (omega (arith, jk, within)) within) ∙ f))))

    second_no_cycle : (a b : Bool) → order_by values t i j ≡ a → order_by values t j k ≡ b →
        makes_some values (stands_before t i j ∷ stands_before t j k ∷ neg_ℤ (stands_before t i k) ∷ []) ≡ true
    second_no_cycle true b e f = first_makes values (stands_before t i j) (stands_before t j k ∷ neg_ℤ (stands_before t i k) ∷ []) e
    second_no_cycle false true e f =
        rest_makes values (stands_before t i j) (stands_before t j k ∷ neg_ℤ (stands_before t i k) ∷ [])
        (first_makes values (stands_before t j k) (neg_ℤ (stands_before t i k) ∷ []) f)
    second_no_cycle false false e f =
        let ji = turned values (operation_count t) i j (λ h. omega (arith, h, ij)) ∙ ap not e in
        let kj = turned values (operation_count t) j k (λ h. omega (arith, h, jk)) ∙ ap not f in
        let ki = schedule_trans t names ok legal.interleaving k j i within (omega (arith, jk, within)) (omega (arith, ij, jk, within))
        (sym (side_is k j (λ h. omega (arith, h, jk)) within (omega (arith, jk, within))) ∙ kj)
        (sym (side_is j i (λ h. omega (arith, h, ij)) (omega (arith, jk, within)) (omega (arith, ij, jk, within))) ∙ ji) in
        let back = side_is k i (λ h. omega (arith, h, ij, jk)) within (omega (arith, ij, jk, within)) ∙ ki in
        rest_makes values (stands_before t i j) (stands_before t j k ∷ neg_ℤ (stands_before t i k) ∷ [])
        (rest_makes values (stands_before t j k) (neg_ℤ (stands_before t i k) ∷ [])
        (first_makes values (neg_ℤ (stands_before t i k)) [] (lit_negated values (operation_count t) i k (omega (arith, ij, jk)) ∙ sym (turned values (operation_count t) i k (λ h. omega (arith, h, ij, jk))) ∙ back)))

    no_cycle_true : (c : List ℤ) → Contains (no_cycle (operation_count t) i j k) c → makes_some values c ≡ true
    no_cycle_true c d =
        elim (cases_in (neg_ℤ (stands_before t i j) ∷ neg_ℤ (stands_before t j k) ∷ stands_before t i k ∷ []) ((stands_before t i j ∷ stands_before t j k ∷ neg_ℤ (stands_before t i k) ∷ []) ∷ []) c d) [
          | inl e ↦ subst (λ l. makes_some values l ≡ true) e (first_no_cycle (order_by values t i j) (order_by values t j k) refl refl)
          | inr rest ↦ elim (cases_in (stands_before t i j ∷ stands_before t j k ∷ neg_ℤ (stands_before t i k) ∷ []) [] c rest) [
            | inl e ↦ subst (λ l. makes_some values l ≡ true) e (second_no_cycle (order_by values t i j) (order_by values t j k) refl refl)
            | inr none ↦ absurd (none_in c none)
          ]
        ]

  pub transitivity_true : (c : List ℤ) → Contains (transitivity (operation_count t)) c → makes_some values c ≡ true
  transitivity_true c d =
      let first = from_flat_map (transitivity_from (operation_count t)) (numbers t) c d in
      let second = from_flat_map (λ (y : ℕ). flat_map (λ (z : ℕ). no_cycle (operation_count t) first.0 y z) (numbers_above (operation_count t) y)) (numbers_above (operation_count t) first.0) c first.2 in
      let third = from_flat_map (λ (z : ℕ). no_cycle (operation_count t) first.0 second.0 z) (numbers_above (operation_count t) second.0) c second.2 in
      let low = from_range (first.0 + 1) (operation_count t - (first.0 + 1)) second.0 second.1 in
      let high = from_range (second.0 + 1) (operation_count t - (second.0 + 1)) third.0 third.1 in
      no_cycle_true first.0 second.0 third.0 (omega (arith, low.0)) (omega (arith, high.0)) (omega (arith, high.0, high.1)) c third.2
