-- Each legal schedule is in a cube that holds its truth values.
use Rattle.std.proofs.Common.{◌≡◌, ◌⊎◌, ℕ, suc, ◌+◌, ◌<◌, ℤ, pos, negsuc, List, Bool, true, false, cond, not, ◌||◌, refl, ap, sym, ◌∙◌, arith, inl, inr, subst, Some, None}
use Rattle.std.specs.Prelude.{◌==◌, Option, ◌&&◌, nat_le, length}
use Rattle.std.specs.List.{Contains, enumerate_from, list_all, list_any, slice_get}
use Rattle.std.proofs.lemmas.Bool.{and_parts, eqb-true}
use Rattle.clause_blocks.specs.Clauses.{clauses_of}
use Rattle.clause_blocks.proofs.ModelToSchedule.ModelChoiceLemmas.{from_final_choices}
use Rattle.clause_blocks.proofs.ModelToSchedule.ModelClauseLemmas.{Meets, to_enumerate}
use Rattle.clause_blocks.proofs.NumbersOfNames.OperationNumberLemmas.{get_listed, number_within}
use Rattle.clause_blocks.proofs.NumbersOfNames.OrderLiteralLemmas.{lit_true}
use Rattle.clause_blocks.proofs.ScheduleToModel.ScheduleLawLemmas.{schedule_model}
use Rattle.clause_blocks.proofs.ScheduleToModel.ScheduleModelLemmas.{to_meets, from_meets, no_length}
use Rattle.clause_blocks.proofs.ScheduleToModel.ScheduleOrderLemmas.{is_ahead_named, ahead_in, stands_numbered, numbered_stands}
use Rattle.clause_blocks.proofs.ScheduleToModel.ScheduleValueLemmas.{meets, is_last, order_truth, choice_truth, final_truth_of, final_truth, truth, from_pairs, choice_value, final_value, order_is}
use Rattle.dimacs.specs.Assignment.{makes_true, makes_all}
use Rattle.reducer.specs.Reduction.{kept_trace}
use Rattle.reducer.proofs.DroppedReads.InterleavingLemmas.{reduced}
use Rattle.reducer.proofs.DroppedReads.ScheduleLemmas.{reduction_legal}
use Rattle.reducer.proofs.KeptTrace.TraceLemmas.{kept_is_trace}
use Rattle.trace_semantics.specs.declared.operation.OpName.{OpName}
use Rattle.trace_semantics.specs.Judgement.{is_held}
use Rattle.trace_semantics.specs.Legal.{IsLegal}
use Rattle.trace_semantics.specs.Trace.{TraceValue, IsTrace, operation_count}
use Rattle.trace_semantics.proofs.ElementLemmas.{all_pass, pass_all, some_passes, from_filter}
use Rattle.trace_decision.specs.Decision.{HoldModels}
use Rattle.trace_decision.specs.InCube.{Before, ReadsFrom, IsLastWriter, IsTrueOf, Order, Reads, Final, IsLiteralOf, IsInCube, HoldSchedules}
use Rattle.var_layout.specs.declared.candidate.Candidate.{Candidate}
use Rattle.var_layout.specs.declared.candidate.Candidate.TheVariants.{InitialValue, Writer}
use Rattle.var_layout.specs.declared.candidate.FinalChoice.{FinalChoice}
use Rattle.var_layout.specs.declared.candidate.ReadsFromChoice.{ReadsFromChoice}
use Rattle.var_layout.specs.ChoiceVariables.{all_choices, choices}
use Rattle.var_layout.specs.FinalVariables.{final_candidates, is_untouched, final_choices}
use Rattle.var_layout.specs.Numbers.{name_at, left_at, readers, writers, others, other_writers}
use Rattle.var_layout.specs.OrderVariables.{order_count, order_var, pairs}
use Rattle.var_layout.proofs.NumberingLemmas.{at_enumerated}

named_by : (names : List OpName) (o p : Option OpName) → is_ahead_named names o p ≡ true → (m n : OpName) × (o ≡ Some m) × (p ≡ Some n)
named_by names None p h = absurd (cc)
named_by names (Some m) None h = absurd (cc)
named_by names (Some m) (Some n) h = (m, n, refl, refl)

module _ (t : TraceValue) (names : List OpName) (ok : IsTrace t) (legal : IsLegal t names) where
  abbrev ahead : ℕ → ℕ → Bool
  ahead = ahead_in t names

  abbrev truths : ℕ → Bool
  truths = truth (ahead_in t names) t

  -- the order of two numbers
  to_before : (i j : ℕ) → ahead i j ≡ true → Before t names i j
  to_before i j h =
      let at = named_by names (name_at t i) (name_at t j) h in
      record { first = at.0; second = at.1; first_is = at.2; second_is = at.3; stands = numbered_stands t names ok legal.interleaving i j at.0 at.1 at.2 at.3 h }

  from_before : (i j : ℕ) → Before t names i j → ahead i j ≡ true
  from_before i j b = stands_numbered t names ok legal.interleaving i j b.first b.second b.first_is b.second_is b.stands

  -- what is read
  to_reads : (r : ℕ) (c : Candidate) → Meets ahead t r c → ReadsFrom t names r c
  to_reads r InitialValue m = λ u d. to_before r u (m u d)
  to_reads r (Writer w) m = (to_before w r m.0, λ u d. elim (m.1 u d) [ inl e ↦ inl (to_before u w e) | inr e ↦ inr (to_before r u e) ])

  from_reads : (r : ℕ) (c : Candidate) → ReadsFrom t names r c → Meets ahead t r c
  from_reads r InitialValue m = λ u d. from_before r u (m u d)
  from_reads r (Writer w) m = (from_before w r m.0, λ u d. elim (m.1 u d) [ inl e ↦ inl (from_before u w e) | inr e ↦ inr (from_before r u e) ])

  -- a true variable says what is so
  order_so : (v : ℕ) → order_truth ahead t v ≡ true → IsTrueOf t names v
  order_so v h =
      let found = some_passes (λ (pair : ℕ × ℕ). (order_var (operation_count t) pair.0 pair.1 == v) && ahead pair.0 pair.1) (pairs (operation_count t)) h in
      let parts = and_parts (order_var (operation_count t) found.0.0 found.0.1 == v) (ahead found.0.0 found.0.1) found.2 in
      Order found.0.0 found.0.1 (from_pairs (operation_count t) found.0 found.1).0 (eqb-true (order_var (operation_count t) found.0.0 found.0.1) v parts.0) (to_before found.0.0 found.0.1 parts.1)

  reads_so : (v : ℕ) → choice_truth ahead t v ≡ true → IsTrueOf t names v
  reads_so v h =
      let reader = some_passes (λ (r : ℕ). list_any (λ (c : ReadsFromChoice). (c.variable == v) && meets ahead t r c.candidate) (choices t r)) (readers t) h in
      let found = some_passes (λ (c : ReadsFromChoice). (c.variable == v) && meets ahead t reader.0 c.candidate) (choices t reader.0) reader.2 in
      let parts = and_parts (found.0.variable == v) (meets ahead t reader.0 found.0.candidate) found.2 in
      Reads reader.0 found.0 reader.1 found.1 (eqb-true found.0.variable v parts.0) (to_reads reader.0 found.0.candidate (from_meets ahead t reader.0 found.0.candidate parts.1))

  final_so : (v : ℕ) → final_truth ahead t v ≡ true → IsTrueOf t names v
  final_so v h =
      let numbered = some_passes (final_truth_of ahead t v) (enumerate_from 0 t.final_values) h in
      let place = at_enumerated 0 t.final_values numbered.0 numbered.1 in
      let halves = and_parts (not (is_untouched t numbered.0.1)) (list_any (λ (c : FinalChoice). (c.variable == v) && is_last ahead t numbered.0.1.0 c.writer) (final_choices t numbered.0.0 numbered.0.1)) numbered.2 in
      let found = some_passes (λ (c : FinalChoice). (c.variable == v) && is_last ahead t numbered.0.1.0 c.writer) (final_choices t numbered.0.0 numbered.0.1) halves.1 in
      let parts = and_parts (found.0.variable == v) (is_last ahead t numbered.0.1.0 found.0.writer) found.2 in
      let index : numbered.0.0 ≡ place.0 = omega (arith, place.1) in
      let given : slice_get t.final_values numbered.0.0 ≡ Some numbered.0.1 = ap (slice_get t.final_values) index ∙ place.2 in
      Final numbered.0.0 numbered.0.1 found.0 given found.1 (eqb-true found.0.variable v parts.0)
      (λ u d. to_before u found.0.writer (all_pass (λ x. ahead x found.0.writer) (others found.0.writer (writers t numbered.0.1.0)) parts.1 u d))

  so_by : (v : ℕ) (a b : Bool) → cond a (order_truth ahead t v) (cond b (choice_truth ahead t v) (final_truth ahead t v)) ≡ true → IsTrueOf t names v
  so_by v true b h = order_so v h
  so_by v false true h = reads_so v h
  so_by v false false h = final_so v h

  so : (v : ℕ) → truths v ≡ true → IsTrueOf t names v
  so v h = so_by v (nat_le v (order_count (operation_count t))) (nat_le v (order_count (operation_count t) + all_choices t)) h

  -- what is so is true
  order_holds : (i j : ℕ) → i < j → Before t names i j → truths (order_var (operation_count t) i j) ≡ true
  order_holds i j l b =
      sym (lit_true truths (operation_count t) i j l)
      ∙ order_is t names ok legal.interleaving i j (λ e. omega (arith, e, l)) (number_within t i b.first b.first_is) (number_within t j b.second b.second_is)
      ∙ from_before i j b

  writer_there : (k : ℕ) (entry : List ℕ × ℕ) (c : FinalChoice) → Contains (final_choices t k entry) c → Contains (writers t entry.0) c.writer
  writer_there k entry c d =
      let at = from_final_choices t k entry c d in
      (from_filter (λ (w : ℕ). is_held (left_at t entry.0 w) entry.1) (writers t entry.0) c.writer (get_listed (final_candidates t entry) at.0 c.writer at.2)).0

  touched : (k : ℕ) (entry : List ℕ × ℕ) (c : FinalChoice) → Contains (final_choices t k entry) c → (b : Bool) → is_untouched t entry ≡ b → is_untouched t entry ≡ false
  touched k entry c d true e = absurd (no_length (writers t entry.0) c.writer (writer_there k entry c d) (and_parts (length (writers t entry.0) == 0) _ e).0)
  touched k entry c d false e = e

  final_holds : (k : ℕ) (entry : List ℕ × ℕ) (c : FinalChoice) → slice_get t.final_values k ≡ Some entry → Contains (final_choices t k entry) c → IsLastWriter t names entry.0 c.writer → truths c.variable ≡ true
  final_holds k entry c given d last =
      let index : 0 + k ≡ k = omega arith in
      let numbered : Contains (enumerate_from 0 t.final_values) (k, entry) = subst (λ (n : ℕ). Contains (enumerate_from 0 t.final_values) (n, entry)) index (to_enumerate 0 t.final_values k entry given) in
      final_value ahead t k entry c numbered (touched k entry c d (is_untouched t entry) refl) d
      ∙ pass_all (λ x. ahead x c.writer) (others c.writer (writers t entry.0)) (λ u e. from_before u c.writer (last u e))

  holds : (v : ℕ) → IsTrueOf t names v → truths v ≡ true
  holds v (Order i j l e b) = ap truths (sym e) ∙ order_holds i j l b
  holds v (Reads r c a d e m) = ap truths (sym e) ∙ choice_value ahead t r c a d ∙ to_meets ahead t r c.candidate (from_reads r c.candidate m)
  holds v (Final k entry c given d e last) = ap truths (sym e) ∙ final_holds k entry c given d last

  literal_so : (literal : ℤ) → makes_true truths literal ≡ true → IsLiteralOf t names literal
  literal_so (pos v) h = so v h
  literal_so (negsuc k) h = λ is. (let clash : false ≡ true = ap not (sym (holds (suc k) is)) ∙ h in cc)

  in_cube : (cube : List ℤ) → makes_all truths cube ≡ true → IsInCube t names cube
  in_cube cube h = λ literal c. literal_so literal (all_pass (makes_true truths) cube h literal c)

pub holds_schedules : (t : TraceValue) → IsTrace t → (cubes : List (List ℤ)) → HoldModels (clauses_of (kept_trace t)) cubes → HoldSchedules t cubes
holds_schedules t ok cubes given names legal =
    let kept : TraceValue = kept_trace t in
    let left : List OpName = reduced t names in
    let fine : IsTrace kept = kept_is_trace t ok in
    let here : IsLegal kept left = reduction_legal t names ok legal in
    let found = given (truth (ahead_in kept left) kept) (schedule_model kept left fine here) in
    (found.0, found.1, in_cube kept left fine here found.0 found.2)
