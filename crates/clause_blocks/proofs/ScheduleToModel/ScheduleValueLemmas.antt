-- The truth values that a schedule gives the variables.
use Rattle.std.proofs.Common.{◌≡◌, ℕ, ◌+◌, ◌-◌, ◌<◌, ◌≤◌, List, map, Bool, true, false, cond, not, ◌&&◌, ◌||◌, refl, ap, sym, ◌∙◌, arith, inl, inr, Some}
use Rattle.std.specs.Prelude.{◌≢◌, ◌==◌, nat_le}
use Rattle.std.specs.List.{Contains, enumerate_from, list_all, list_any, slice_get, range_with_len}
use Rattle.std.proofs.lemmas.Bool.{and_parts, and_from, eqb-true, eq-eqb, cases_order, le-leb, lt-leb, not-true}
use Rattle.text_lines.proofs.BoolLemmas.{same_truth}
use Rattle.trace_semantics.specs.declared.operation.OpName.{OpName}
use Rattle.trace_semantics.specs.Interleaving.{IsInterleaving}
use Rattle.trace_semantics.specs.Trace.{TraceValue, IsTrace, operation_count}
use Rattle.trace_semantics.proofs.ElementLemmas.{some_passes, passes_some, from_map, to_map, from_flat_map, to_flat_map, from_range, to_range}
use Rattle.var_layout.specs.declared.candidate.Candidate.{Candidate}
use Rattle.var_layout.specs.declared.candidate.Candidate.TheVariants.{InitialValue, Writer}
use Rattle.var_layout.specs.declared.candidate.ReadsFromChoice.{ReadsFromChoice}
use Rattle.var_layout.specs.declared.candidate.FinalChoice.{FinalChoice}
use Rattle.var_layout.specs.ChoiceVariables.{all_choices, first_choice, choices}
use Rattle.var_layout.specs.FinalVariables.{is_untouched, first_final, final_choices}
use Rattle.var_layout.specs.Numbers.{readers, writers, others, other_writers}
use Rattle.var_layout.specs.OrderVariables.{numbers_above, pairs, order_count, order_var}
use Rattle.var_layout.proofs.OrderLemmas.{order_last, pairs_apart}
use Rattle.var_layout.proofs.NumberingLemmas.{at_enumerated}
use Rattle.clause_blocks.proofs.ModelToSchedule.ModelChoiceLemmas.{from_choices, from_final_choices}
use Rattle.clause_blocks.proofs.ModelToSchedule.ModelClauseLemmas.{order_by}
use Rattle.clause_blocks.proofs.NumbersOfNames.OrderLiteralLemmas.{lit_true, lit_false}
use Rattle.clause_blocks.proofs.ScheduleToModel.ScheduleOrderLemmas.{ahead_in, schedule_flips}
use Rattle.clause_blocks.proofs.ScheduleToModel.VariableRangeLemmas.{choice_above, choice_within, one_choice, final_above, one_final}

-- the candidate is the one that is read, in an order of the numbers
abbrev pub meets : (ℕ → ℕ → Bool) → TraceValue → ℕ → Candidate → Bool
meets ahead t r InitialValue = list_all (ahead r) (other_writers t r)
meets ahead t r (Writer w) = ahead w r && list_all (λ v. ahead v w || ahead r v) (others w (other_writers t r))

-- the writer is the last one of the location
abbrev pub is_last : (ℕ → ℕ → Bool) → TraceValue → List ℕ → ℕ → Bool
is_last ahead t location w = list_all (λ v. ahead v w) (others w (writers t location))

-- the variable is of a pair in this order
abbrev pub order_truth : (ℕ → ℕ → Bool) → TraceValue → ℕ → Bool
order_truth ahead t v = list_any (λ (pair : ℕ × ℕ). (order_var (operation_count t) pair.0 pair.1 == v) && ahead pair.0 pair.1) (pairs (operation_count t))

-- the variable is of the candidate that is read
abbrev pub choice_truth : (ℕ → ℕ → Bool) → TraceValue → ℕ → Bool
choice_truth ahead t v = list_any (λ r. list_any (λ (c : ReadsFromChoice). (c.variable == v) && meets ahead t r c.candidate) (choices t r)) (readers t)

-- the variable is of the last writer of a location that is written
abbrev pub final_truth_of : (ℕ → ℕ → Bool) → TraceValue → ℕ → ℕ × (List ℕ × ℕ) → Bool
final_truth_of ahead t v numbered = not (is_untouched t numbered.1) && list_any (λ (c : FinalChoice). (c.variable == v) && is_last ahead t numbered.1.0 c.writer) (final_choices t numbered.0 numbered.1)

abbrev pub final_truth : (ℕ → ℕ → Bool) → TraceValue → ℕ → Bool
final_truth ahead t v = list_any (final_truth_of ahead t v) (enumerate_from 0 t.final_values)

-- the truth values of all variables
abbrev pub truth : (ℕ → ℕ → Bool) → TraceValue → ℕ → Bool
truth ahead t v = cond (nat_le v (order_count (operation_count t))) (order_truth ahead t v) (cond (nat_le v (order_count (operation_count t) + all_choices t)) (choice_truth ahead t v) (final_truth ahead t v))

-- the pairs of numbers
pub from_pairs : (n : ℕ) (p : ℕ × ℕ) → Contains (pairs n) p → (p.0 < p.1) × (p.1 < n)
from_pairs n p c =
    let row = from_flat_map (λ (i : ℕ). map (λ (j : ℕ). (i, j)) (numbers_above n i)) (range_with_len 0 n) p c in
    let at = from_map (λ (j : ℕ). (row.0, j)) (numbers_above n row.0) p row.2 in
    let first : row.0 ≡ p.0 = ap (λ (q : ℕ × ℕ). q.0) at.2 in
    let second : at.0 ≡ p.1 = ap (λ (q : ℕ × ℕ). q.1) at.2 in
    let low = from_range 0 n row.0 row.1 in
    let high = from_range (row.0 + 1) (n - (row.0 + 1)) at.0 at.1 in
    (omega (arith, first, second, high.0), omega (arith, first, second, low.1, high.0, high.1))

pub to_pairs : (n i j : ℕ) → i < j → j < n → Contains (pairs n) (i, j)
to_pairs n i j h l =
    to_flat_map (λ (k : ℕ). map (λ (m : ℕ). (k, m)) (numbers_above n k)) (range_with_len 0 n) i (i, j) (to_range 0 n i (omega arith) (omega (arith, h, l)))
    (to_map (λ (m : ℕ). (i, m)) (numbers_above n i) j (to_range (i + 1) (n - (i + 1)) j (omega (arith, h)) (omega (arith, h, l))))

module _ (ahead : ℕ → ℕ → Bool) (t : TraceValue) where
  -- the three ranges
  truth_low : (v : ℕ) → v ≤ order_count (operation_count t) → truth ahead t v ≡ order_truth ahead t v
  truth_low v h = ap (λ b. cond b (order_truth ahead t v) (cond (nat_le v (order_count (operation_count t) + all_choices t)) (choice_truth ahead t v) (final_truth ahead t v))) (le-leb v (order_count (operation_count t)) h)

  truth_middle : (v : ℕ) → order_count (operation_count t) < v → v ≤ order_count (operation_count t) + all_choices t → truth ahead t v ≡ choice_truth ahead t v
  truth_middle v h l =
      ap (λ b. cond b (order_truth ahead t v) (cond (nat_le v (order_count (operation_count t) + all_choices t)) (choice_truth ahead t v) (final_truth ahead t v))) (lt-leb v (order_count (operation_count t)) h)
      ∙ ap (λ b. cond b (choice_truth ahead t v) (final_truth ahead t v)) (le-leb v (order_count (operation_count t) + all_choices t) l)

  truth_high : (v : ℕ) → order_count (operation_count t) + all_choices t < v → truth ahead t v ≡ final_truth ahead t v
  truth_high v h =
      ap (λ b. cond b (order_truth ahead t v) (cond (nat_le v (order_count (operation_count t) + all_choices t)) (choice_truth ahead t v) (final_truth ahead t v))) (lt-leb v (order_count (operation_count t)) (omega (arith, h)))
      ∙ ap (λ b. cond b (choice_truth ahead t v) (final_truth ahead t v)) (lt-leb v (order_count (operation_count t) + all_choices t) h)

  -- order variables
  from_order : (i j : ℕ) → i < j → j < operation_count t → order_truth ahead t (order_var (operation_count t) i j) ≡ true → ahead i j ≡ true
  from_order i j h l e =
      let found = some_passes (λ (pair : ℕ × ℕ). (order_var (operation_count t) pair.0 pair.1 == order_var (operation_count t) i j) && ahead pair.0 pair.1) (pairs (operation_count t)) e in
      let parts = and_parts (order_var (operation_count t) found.0.0 found.0.1 == order_var (operation_count t) i j) (ahead found.0.0 found.0.1) found.2 in
      let within = from_pairs (operation_count t) found.0 found.1 in
      let one = pairs_apart (operation_count t) found.0.0 found.0.1 i j within.0 within.1 h l (eqb-true (order_var (operation_count t) found.0.0 found.0.1) (order_var (operation_count t) i j) parts.0) in
      (λ k. ahead (sym one.0 k) (sym one.1 k)) ∙ parts.1

  to_order : (i j : ℕ) → i < j → j < operation_count t → ahead i j ≡ true → order_truth ahead t (order_var (operation_count t) i j) ≡ true
  to_order i j h l e =
      passes_some (λ (pair : ℕ × ℕ). (order_var (operation_count t) pair.0 pair.1 == order_var (operation_count t) i j) && ahead pair.0 pair.1) (pairs (operation_count t)) (i, j) (to_pairs (operation_count t) i j h l)
      (and_from (order_var (operation_count t) i j == order_var (operation_count t) i j) (ahead i j) (eq-eqb (order_var (operation_count t) i j) (order_var (operation_count t) i j) refl) e)

  order_value : (i j : ℕ) → i < j → j < operation_count t → truth ahead t (order_var (operation_count t) i j) ≡ ahead i j
  order_value i j h l =
      truth_low (order_var (operation_count t) i j) (order_last (operation_count t) i j h l)
      ∙ same_truth (order_truth ahead t (order_var (operation_count t) i j)) (ahead i j) (from_order i j h l) (to_order i j h l)

  -- choice variables
  from_choice : (r : ℕ) (c : ReadsFromChoice) → Contains (readers t) r → Contains (choices t r) c → choice_truth ahead t c.variable ≡ true → meets ahead t r c.candidate ≡ true
  from_choice r c a d e =
      let reader = some_passes (λ (s : ℕ). list_any (λ (x : ReadsFromChoice). (x.variable == c.variable) && meets ahead t s x.candidate) (choices t s)) (readers t) e in
      let found = some_passes (λ (x : ReadsFromChoice). (x.variable == c.variable) && meets ahead t reader.0 x.candidate) (choices t reader.0) reader.2 in
      let parts = and_parts (found.0.variable == c.variable) (meets ahead t reader.0 found.0.candidate) found.2 in
      let at = from_choices t r c d in
      let that = from_choices t reader.0 found.0 found.1 in
      let same : first_choice t reader.0 + that.0 ≡ first_choice t r + at.0 = omega (arith, that.1, eqb-true found.0.variable c.variable parts.0, at.1) in
      let one = one_choice t reader.0 that.0 found.0.candidate r at.0 c.candidate (record { reader = reader.1; candidate = that.2 }) (record { reader = a; candidate = at.2 }) same in
      (λ k. meets ahead t (sym one.0 k) (sym one.1 k)) ∙ parts.1

  to_choice : (r : ℕ) (c : ReadsFromChoice) → Contains (readers t) r → Contains (choices t r) c → meets ahead t r c.candidate ≡ true → choice_truth ahead t c.variable ≡ true
  to_choice r c a d e =
      passes_some (λ (s : ℕ). list_any (λ (x : ReadsFromChoice). (x.variable == c.variable) && meets ahead t s x.candidate) (choices t s)) (readers t) r a
      (passes_some (λ (x : ReadsFromChoice). (x.variable == c.variable) && meets ahead t r x.candidate) (choices t r) c d
      (and_from (c.variable == c.variable) (meets ahead t r c.candidate) (eq-eqb c.variable c.variable refl) e))

  pub choice_value : (r : ℕ) (c : ReadsFromChoice) → Contains (readers t) r → Contains (choices t r) c → truth ahead t c.variable ≡ meets ahead t r c.candidate
  choice_value r c a d =
      let at = from_choices t r c d in
      let above = choice_above t r at.0 in
      let within = choice_within t r at.0 c.candidate (record { reader = a; candidate = at.2 }) in
      truth_middle c.variable (omega (arith, at.1, above)) (omega (arith, at.1, within))
      ∙ same_truth (choice_truth ahead t c.variable) (meets ahead t r c.candidate) (from_choice r c a d) (to_choice r c a d)

  -- final variables
  from_final : (i : ℕ) (entry : List ℕ × ℕ) (c : FinalChoice) → slice_get t.final_values i ≡ Some entry → is_untouched t entry ≡ false → Contains (final_choices t i entry) c → final_truth ahead t c.variable ≡ true → is_last ahead t entry.0 c.writer ≡ true
  from_final i entry c g u d e =
      let numbered = some_passes (final_truth_of ahead t c.variable) (enumerate_from 0 t.final_values) e in
      let place = at_enumerated 0 t.final_values numbered.0 numbered.1 in
      let halves = and_parts (not (is_untouched t numbered.0.1)) (list_any (λ (x : FinalChoice). (x.variable == c.variable) && is_last ahead t numbered.0.1.0 x.writer) (final_choices t numbered.0.0 numbered.0.1)) numbered.2 in
      let found = some_passes (λ (x : FinalChoice). (x.variable == c.variable) && is_last ahead t numbered.0.1.0 x.writer) (final_choices t numbered.0.0 numbered.0.1) halves.1 in
      let parts = and_parts (found.0.variable == c.variable) (is_last ahead t numbered.0.1.0 found.0.writer) found.2 in
      let at = from_final_choices t i entry c d in
      let that = from_final_choices t numbered.0.0 numbered.0.1 found.0 found.1 in
      let index : numbered.0.0 ≡ place.0 = omega (arith, place.1) in
      let that_given : slice_get t.final_values numbered.0.0 ≡ Some numbered.0.1 = ap (slice_get t.final_values) index ∙ place.2 in
      let same : first_final t numbered.0.0 + that.0 ≡ first_final t i + at.0 = omega (arith, that.1, eqb-true found.0.variable c.variable parts.0, at.1) in
      let one = one_final t numbered.0.0 numbered.0.1 that.0 found.0.writer i entry at.0 c.writer
      (record { given = that_given; touched = not-true (is_untouched t numbered.0.1) halves.0; writer = that.2 }) (record { given = g; touched = u; writer = at.2 }) same in
      (λ k. is_last ahead t (sym one.0 k).0 (sym one.1 k)) ∙ parts.1

  to_final : (i : ℕ) (entry : List ℕ × ℕ) (c : FinalChoice) → Contains (enumerate_from 0 t.final_values) (i, entry) → is_untouched t entry ≡ false → Contains (final_choices t i entry) c → is_last ahead t entry.0 c.writer ≡ true → final_truth ahead t c.variable ≡ true
  to_final i entry c g u d e =
      passes_some (final_truth_of ahead t c.variable) (enumerate_from 0 t.final_values) (i, entry) g
      (and_from (not (is_untouched t entry)) (list_any (λ (x : FinalChoice). (x.variable == c.variable) && is_last ahead t entry.0 x.writer) (final_choices t i entry)) (ap not u)
      (passes_some (λ (x : FinalChoice). (x.variable == c.variable) && is_last ahead t entry.0 x.writer) (final_choices t i entry) c d
      (and_from (c.variable == c.variable) (is_last ahead t entry.0 c.writer) (eq-eqb c.variable c.variable refl) e)))

  pub final_value : (i : ℕ) (entry : List ℕ × ℕ) (c : FinalChoice) → Contains (enumerate_from 0 t.final_values) (i, entry) → is_untouched t entry ≡ false → Contains (final_choices t i entry) c →
      truth ahead t c.variable ≡ is_last ahead t entry.0 c.writer
  final_value i entry c g u d =
      let place = at_enumerated 0 t.final_values (i, entry) g in
      let index : i ≡ place.0 = omega (arith, place.1) in
      let given : slice_get t.final_values i ≡ Some entry = ap (slice_get t.final_values) index ∙ place.2 in
      let at = from_final_choices t i entry c d in
      let above = final_above t i at.0 in
      truth_high c.variable (omega (arith, at.1, above))
      ∙ same_truth (final_truth ahead t c.variable) (is_last ahead t entry.0 c.writer) (from_final i entry c given u d) (to_final i entry c g u d)

-- the literal of two operations is true where the first stands before the second
pub order_is : (t : TraceValue) (names : List OpName) → IsTrace t → IsInterleaving t names → (i j : ℕ) → i ≢ j → i < operation_count t → j < operation_count t →
    order_by (truth (ahead_in t names) t) t i j ≡ ahead_in t names i j
order_is t names ok given i j d h k =
    elim (cases_order i j) [
      | inl e ↦ absurd (d e)
      | inr (inl l) ↦ lit_true (truth (ahead_in t names) t) (operation_count t) i j l ∙ order_value (ahead_in t names) t i j l k
      | inr (inr l) ↦ lit_false (truth (ahead_in t names) t) (operation_count t) j i l ∙ ap not (order_value (ahead_in t names) t j i l h)
          ∙ sym (schedule_flips t names ok given j i (λ e. d (sym e)) k h)
    ]
