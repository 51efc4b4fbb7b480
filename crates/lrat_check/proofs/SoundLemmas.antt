-- Justified clauses follow from active ones.
use Rattle.std.proofs.Common.{◌≡◌, ◌≢◌, ℕ, zero, suc, Bool, true, false, not, List, [], ◌∷◌, ◌++◌, map, length, refl, ap, sym, ◌∙◌, subst, inl, inr, arith}
use Rattle.std.specs.Prelude.{ℤ, pos, negsuc, nat_abs, neg_ℤ, cond, Option, Some, None, ◌==◌}
use Rattle.std.specs.List.{list_any, list_all, slice_get}
use Rattle.std.specs.Ordering.{int_eq}
use Rattle.std.proofs.lemmas.Bool.{cases_Bool, or_cases, or_left, or_right, or_parts, ne_eqb, and_from, and_parts, false≢true, true≢false, false_from_ne_true, not-true, not_from_false, or_from, cond-true, cond-false, eq-eqb, eqb-true}
use Rattle.std.proofs.lemmas.Option.{same_Some, none-some}
use Rattle.std.proofs.lemmas.List.Folds.{list_all-append, list_any-append}
use Rattle.text_lines.proofs.BoolLemmas.{not_not}
use Rattle.text_lines.proofs.Decimals.IntegerLemmas.{same_integer, twice_negated}
use Rattle.dimacs.specs.Assignment.{makes_true, makes_some}
use Rattle.dimacs.specs.Models.{HasNoModelIn}
use Rattle.dimacs.specs.Literal.{is_literal_up_to, is_clause_up_to, is_clause}
use Rattle.lrat_check.specs.Active.{numbered, at_start, with_clause, without, after}
use Rattle.lrat_check.specs.Checked.{IsRight, ends, Accepts, IsAccepted}
use Rattle.lrat_check.specs.Derivation.{is_step, are_steps}
use Rattle.lrat_check.specs.Hints.{Group, has_group, first_hints, groups_of}
use Rattle.lrat_check.specs.Justified.{IsImplied, IsJustified}
use Rattle.lrat_check.specs.Rat.{Reaches, others, IsSettled, AreSettled}
use Rattle.lrat_check.specs.Refuted.{Refutes, negated}
use Rattle.lrat_check.specs.Propagation.{has, is_tautology, is_falsified}
use Rattle.lrat_check.specs.Sound.{has_no_zero, HaveNoZero, Satisfies, HasModel}
use Rattle.lrat_check.specs.declared.derivation.Step.{Step}
use Rattle.lrat_check.specs.declared.derivation.Step.TheVariants.{Addition, Deletion}
use Rattle.lrat_check.proofs.Justifying.PropagationLemmas.{each_has, has_any, any_has, has_cases, has_negated, taut_pair, cases_same, int_same}

suc_not_zero : (n : ℕ) → (suc n == 0) ≡ true → ⊥
suc_not_zero n h = omega (arith, eqb-true (suc n) 0 h)

-- what holds of each clause holds of one at a place
each_got : (p : List ℤ → Bool) (clauses : List (List ℤ)) (k : ℕ) (clause : List ℤ) → list_all p clauses ≡ true → slice_get clauses k ≡ Some clause → p clause ≡ true
each_got p [] k clause all e = absurd (none-some clause e)
each_got p (x ∷ clauses) zero clause all e = ap p (sym (same_Some x clause e)) ∙ (and_parts (p x) (list_all p clauses) all).0
each_got p (x ∷ clauses) (suc k) clause all e = each_got p clauses k clause (and_parts (p x) (list_all p clauses) all).1 e

-- the opposite literal has the opposite truth value, unless it is 0
opposite : (value : ℕ → Bool) (z : ℤ) → z ≢ pos 0 → makes_true value (neg_ℤ z) ≡ not (makes_true value z)
opposite value (pos zero) h = absurd (h refl)
opposite value (pos (suc n)) h = refl
opposite value (negsuc n) h = sym (not_not (value (suc n)))

not_zero : (clause : List ℤ) (z : ℤ) → has_no_zero clause ≡ true → has clause z ≡ true → z ≢ pos 0
not_zero clause z h k e = true≢false (sym k ∙ ap (has clause) e ∙ not-true (has clause (pos 0)) h)

-- the truth values make these literals true
abbrev MakesAll : (ℕ → Bool) → List ℤ → Type 0
MakesAll value literals = (z : ℤ) → has literals z ≡ true → makes_true value z ≡ true

-- a true literal of a clause
true_literal : (value : ℕ → Bool) (clause : List ℤ) → makes_some value clause ≡ true → (z : ℤ) × (has clause z ≡ true) × (makes_true value z ≡ true)
true_literal value clause h = any_has (makes_true value) clause h

-- a true literal is not false where the literals that are true are so by the truth values
not_falsified : (value : ℕ → Bool) (trues : List ℤ) (z : ℤ) → MakesAll value trues → z ≢ pos 0 → makes_true value z ≡ true → is_falsified trues z ≡ false
not_falsified value trues z all apart holds = false_from_ne_true (is_falsified trues z) (λ h.
    true≢false (sym (all (neg_ℤ z) h) ∙ opposite value z apart ∙ ap not holds))

makes_more : (value : ℕ → Bool) (trues : List ℤ) (unit : ℤ) → MakesAll value trues → makes_true value unit ≡ true → MakesAll value (trues ++ unit ∷ [])
makes_more value trues unit all holds z h = elim (has_cases trues unit z h) [ inl old ↦ all z old | inr same ↦ ap (makes_true value) (sym same) ∙ holds ]

-- truth values that satisfy the active clauses do not make all literals true that the hints refute
refuted : (active : ℕ → Option (List ℤ)) (value : ℕ → Bool) → HaveNoZero active → Satisfies value active → (hints : List ℕ) (trues : List ℤ) → MakesAll value trues → Refutes active trues hints → ⊥
refuted active value clean sat [] trues all h = h
refuted active value clean sat (hint ∷ hints) trues all (clause, known, inl false_clause) =
    let found = true_literal value clause (sat hint clause known) in
    let un = not_falsified value trues found.0 all (not_zero clause found.0 (clean hint clause known) found.1) found.2 in
    true≢false (sym (each_has (is_falsified trues) clause found.0 false_clause found.1) ∙ un)
refuted active value clean sat (hint ∷ hints) trues all (clause, known, inr (unit, is, later)) =
    let found = true_literal value clause (sat hint clause known) in
    let un = not_falsified value trues found.0 all (not_zero clause found.0 (clean hint clause known) found.1) found.2 in
    let holds : makes_true value unit ≡ true = ap (makes_true value) (sym (is.alone found.0 found.1 un)) ∙ found.2 in
    refuted active value clean sat hints (trues ++ unit ∷ []) (makes_more value trues unit all holds) later

-- where no literal is true, all negations are
negations_true : (value : ℕ → Bool) (clause : List ℤ) → has_no_zero clause ≡ true → makes_some value clause ≡ false → MakesAll value (negated clause)
negations_true value clause clean none z h =
    let in_it : has clause (neg_ℤ z) ≡ true = sym (has_negated clause (neg_ℤ z)) ∙ ap (has (negated clause)) (twice_negated z) ∙ h in
    let untrue : makes_true value (neg_ℤ z) ≡ false = false_from_ne_true (makes_true value (neg_ℤ z)) (λ holds. true≢false (sym (has_any (makes_true value) clause (neg_ℤ z) in_it holds) ∙ none)) in
    ap (makes_true value) (sym (twice_negated z)) ∙ opposite value (neg_ℤ z) (not_zero clause (neg_ℤ z) clean in_it) ∙ ap not untrue

-- a literal and its negation: one is true
tautology_true : (value : ℕ → Bool) (clause : List ℤ) → has_no_zero clause ≡ true → is_tautology clause ≡ true → makes_some value clause ≡ true
tautology_true value clause clean h =
    let pair = taut_pair clause h in
    elim (cases_Bool (makes_true value pair.0)) [
      | inl holds ↦ has_any (makes_true value) clause pair.0 pair.1 holds
      | inr untrue ↦ has_any (makes_true value) clause (neg_ℤ pair.0) pair.2 (opposite value pair.0 (not_zero clause pair.0 clean pair.1) ∙ ap not untrue)
    ]

pub implied_true : (active : ℕ → Option (List ℤ)) (clause hints : List ℤ) → HaveNoZero active → has_no_zero clause ≡ true → IsImplied active clause hints →
    (value : ℕ → Bool) → Satisfies value active → makes_some value clause ≡ true
implied_true active clause hints clean no_zero (inl taut) value sat = tautology_true value clause no_zero taut
implied_true active clause hints clean no_zero (inr refutes) value sat =
    elim (cases_Bool (makes_some value clause)) [
      | inl holds ↦ holds
      | inr none ↦ absurd (refuted active value clean sat (first_hints hints) (negated clause) (negations_true value clause no_zero none) refutes)
    ]

-- what holds of the active clauses and of a new one holds with it
with_each : (P : List ℤ → Type 0) (id : ℕ) (new : List ℤ) (active : ℕ → Option (List ℤ)) → P new → ((k : ℕ) (clause : List ℤ) → active k ≡ Some clause → P clause) →
    (k : ℕ) (clause : List ℤ) → with_clause id new active k ≡ Some clause → P clause
with_each P id new active here others k clause e =
    elim (cases_Bool (id == k)) [
      | inl same ↦ (let own : Some new ≡ Some clause = sym (cond-true (id == k) (Some new) (active k) same) ∙ e in subst P (same_Some new clause own) here)
      | inr apart ↦ others k clause (sym (cond-false (id == k) (Some new) (active k) apart) ∙ e)
    ]

without_each : (P : List ℤ → Type 0) (ids : List ℕ) (active : ℕ → Option (List ℤ)) → ((k : ℕ) (clause : List ℤ) → active k ≡ Some clause → P clause) →
    (k : ℕ) (clause : List ℤ) → without ids active k ≡ Some clause → P clause
without_each P ids active others k clause e =
    elim (cases_Bool (list_any (λ id. id == k) ids)) [
      | inl dropped ↦ absurd (none-some clause (sym (cond-true (list_any (λ id. id == k) ids) None (active k) dropped) ∙ e))
      | inr stays ↦ others k clause (sym (cond-false (list_any (λ id. id == k) ids) None (active k) stays) ∙ e)
    ]

-- a literal of some variables is not 0
clause_no_zero : (most : ℕ) (clause : List ℤ) → is_clause_up_to most clause ≡ true → has_no_zero clause ≡ true
clause_no_zero most clause h = not_from_false (has clause (pos 0)) (false_from_ne_true (has clause (pos 0)) (λ zero_in.
    false≢true (each_has (is_literal_up_to most) clause (pos 0) h zero_in)))

-- a step keeps that no clause has a 0
pub step_no_zero : (active : ℕ → Option (List ℤ)) (step : Step) → HaveNoZero active → is_step step ≡ true → HaveNoZero (after active step)
step_no_zero active (Addition id literals hints) clean ok = with_each (λ clause. has_no_zero clause ≡ true) id literals active (clause_no_zero 4194304 literals ok) clean
step_no_zero active (Deletion first ids) clean ok = without_each (λ clause. has_no_zero clause ≡ true) ids active clean

-- the truth values with this literal made true
abbrev is_plus : ℤ → Bool
is_plus (pos n) = true
is_plus (negsuc n) = false

abbrev turned : (ℕ → Bool) → ℤ → ℕ → Bool
turned value pivot n = cond (nat_abs pivot == n) (is_plus pivot) (value n)

turned_pivot : (value : ℕ → Bool) (pivot : ℤ) → makes_true (turned value pivot) pivot ≡ true
turned_pivot value (pos n) = cond-true (n == n) true (value n) (eq-eqb n n refl)
turned_pivot value (negsuc n) = ap not (cond-true (suc n == suc n) false (value (suc n)) (eq-eqb (suc n) (suc n) refl))

-- other literals of the same variable
abs_apart : (z pivot : ℤ) → z ≢ pivot → z ≢ neg_ℤ pivot → nat_abs pivot ≢ nat_abs z
abs_apart (pos a) (pos b) h k e = h (ap pos (sym e))
abs_apart (pos a) (negsuc b) h k e = k (ap pos (sym e))
abs_apart (negsuc a) (pos zero) h k e = absurd (omega (arith, e))
abs_apart (negsuc a) (pos (suc b)) h k e = (let same : a ≡ b = omega (arith, e) in k (ap negsuc same))
abs_apart (negsuc a) (negsuc b) h k e = (let same : a ≡ b = omega (arith, e) in h (ap negsuc same))

turned_other : (value : ℕ → Bool) (z pivot : ℤ) → z ≢ pivot → z ≢ neg_ℤ pivot → makes_true (turned value pivot) z ≡ makes_true value z
turned_other value (pos n) pivot h k = cond-false (nat_abs pivot == n) (is_plus pivot) (value n) (ne_eqb (nat_abs pivot) n (abs_apart (pos n) pivot h k))
turned_other value (negsuc n) pivot h k = ap not (cond-false (nat_abs pivot == suc n) (is_plus pivot) (value (suc n)) (ne_eqb (nat_abs pivot) (suc n) (abs_apart (negsuc n) pivot h k)))

-- a true literal stays true, unless it is the pivot's negation
stays : (value : ℕ → Bool) (z pivot : ℤ) → z ≢ neg_ℤ pivot → makes_true value z ≡ true → makes_true (turned value pivot) z ≡ true
stays value z pivot apart holds = elim (cases_same z pivot) [
  | inl same ↦ ap (makes_true (turned value pivot)) same ∙ turned_pivot value pivot
  | inr other ↦ turned_other value z pivot other apart ∙ holds
]

-- the hints make no literal true that is not so by the truth values
reached_true : (active : ℕ → Option (List ℤ)) (value : ℕ → Bool) → HaveNoZero active → Satisfies value active → (hints : List ℕ) (trues reached : List ℤ) → MakesAll value trues → Reaches active trues hints reached → MakesAll value reached
reached_true active value clean sat [] trues reached all e = λ z h. all z (ap (λ l. has l z) (sym e) ∙ h)
reached_true active value clean sat (hint ∷ hints) trues reached all (clause, known, (unit, is, later)) =
    let found = true_literal value clause (sat hint clause known) in
    let un = not_falsified value trues found.0 all (not_zero clause found.0 (clean hint clause known) found.1) found.2 in
    let holds : makes_true value unit ≡ true = ap (makes_true value) (sym (is.alone found.0 found.1 un)) ∙ found.2 in
    reached_true active value clean sat hints (trues ++ unit ∷ []) reached (makes_more value trues unit all holds) later

-- the other literals are of the clause, and none is the pivot's negation
has_others : (pivot : ℤ) (clause : List ℤ) (z : ℤ) → has (others pivot clause) z ≡ true → (has clause z ≡ true) × (z ≢ neg_ℤ pivot)
has_others pivot [] z h = absurd (false≢true h)
has_others pivot (y ∷ clause) z h = elim (cases_Bool (int_eq y (neg_ℤ pivot))) [
  | inl same ↦ (
      let shown = ap (λ b. has (cond b (others pivot clause) (y ∷ others pivot clause)) z) (sym same) ∙ h in
      let later = has_others pivot clause z shown in
      (or_right (int_eq y z) (has clause z) later.0, later.1))
  | inr apart ↦ (
      let shown = ap (λ b. has (cond b (others pivot clause) (y ∷ others pivot clause)) z) (sym apart) ∙ h in
      elim (or_cases (int_eq y z) (has (others pivot clause) z) shown) [
        | inl here ↦ (or_left (int_eq y z) (has clause z) here, λ e. true≢false (sym (same_integer (neg_ℤ pivot)) ∙ ap (λ x. int_eq x (neg_ℤ pivot)) (sym (int_same y z here ∙ e)) ∙ apart))
        | inr there ↦ (let later = has_others pivot clause z there in (or_right (int_eq y z) (has clause z) later.0, later.1))
      ])
]

others_no_zero : (pivot : ℤ) (clause : List ℤ) → has_no_zero clause ≡ true → has_no_zero (others pivot clause) ≡ true
others_no_zero pivot clause h = not_from_false (has (others pivot clause) (pos 0)) (false_from_ne_true (has (others pivot clause) (pos 0)) (λ zero_in.
    true≢false (sym (has_others pivot clause (pos 0) zero_in).0 ∙ not-true (has clause (pos 0)) h)))

makes_both : (value : ℕ → Bool) (xs ys : List ℤ) → MakesAll value xs → MakesAll value ys → MakesAll value (xs ++ ys)
makes_both value xs ys h k z e = elim (or_cases (has xs z) (has ys z) (sym (list_any-append (λ y. int_eq y z) xs ys) ∙ e)) [ inl front ↦ h z front | inr back ↦ k z back ]

-- a true literal of a clause that is not the pivot's negation
abbrev HasOther : (ℕ → Bool) → ℤ → List ℤ → Type 0
HasOther value pivot clause = (z : ℤ) × (has clause z ≡ true) × (z ≢ neg_ℤ pivot) × (makes_true value z ≡ true)

some_other : (value : ℕ → Bool) (pivot : ℤ) (clause : List ℤ) → list_any (makes_true value) (others pivot clause) ≡ true → HasOther value pivot clause
some_other value pivot clause h =
    let found = any_has (makes_true value) (others pivot clause) h in
    let among = has_others pivot clause found.0 found.1 in
    (found.0, among.0, among.1, found.2)

-- the clause of a settled group has one
settled_other : (active : ℕ → Option (List ℤ)) (value : ℕ → Bool) → HaveNoZero active → Satisfies value active → (pivot : ℤ) (reached : List ℤ) (group : Group) → MakesAll value reached →
    (settled : IsSettled active pivot reached group) → HasOther value pivot settled.0
settled_other active value clean sat pivot reached group all (clause, known, opposed, inl holds) =
    let found = any_has (has reached) (others pivot clause) holds in
    let among = has_others pivot clause found.0 found.1 in
    (found.0, among.0, among.1, all found.0 found.2)
settled_other active value clean sat pivot reached group all (clause, known, opposed, inr refutes) = elim (cases_Bool (list_any (makes_true value) (others pivot clause))) [
  | inl some ↦ some_other value pivot clause some
  | inr none ↦ absurd (refuted active value clean sat group.hints (reached ++ negated (others pivot clause))
      (makes_both value reached (negated (others pivot clause)) all (negations_true value (others pivot clause) (others_no_zero pivot clause (clean group.id clause known)) none)) refutes)
]

-- the settled group of an id
group_of : (active : ℕ → Option (List ℤ)) (pivot : ℤ) (reached : List ℤ) (groups : List Group) (id : ℕ) → AreSettled active pivot reached groups → has_group groups id ≡ true →
    (group : Group) × IsSettled active pivot reached group × (group.id ≡ id)
group_of active pivot reached [] id settled h = absurd (false≢true h)
group_of active pivot reached (group ∷ groups) id settled h = elim (or_cases (group.id == id) (has_group groups id) h) [
  | inl here ↦ (group, settled.0, eqb-true group.id id here)
  | inr later ↦ group_of active pivot reached groups id settled.1 later
]

-- what was satisfied stays so where the pivot is made true
opposed_true : (active : ℕ → Option (List ℤ)) (value : ℕ → Bool) → HaveNoZero active → Satisfies value active → (pivot : ℤ) (reached : List ℤ) (groups : List Group) → MakesAll value reached →
    AreSettled active pivot reached groups → ((id : ℕ) (clause : List ℤ) → active id ≡ Some clause → has clause (neg_ℤ pivot) ≡ true → has_group groups id ≡ true) → Satisfies (turned value pivot) active
opposed_true active value clean sat pivot reached groups all settled complete id clause known = elim (cases_Bool (has clause (neg_ℤ pivot))) [
  | inl opposed ↦ (
      let group = group_of active pivot reached groups id settled (complete id clause known opposed) in
      let other = settled_other active value clean sat pivot reached group.0 all group.1 in
      let same : group.1.0 ≡ clause = same_Some group.1.0 clause (sym group.1.1 ∙ ap active group.2 ∙ known) in
      has_any (makes_true (turned value pivot)) clause other.0 (ap (λ l. has l other.0) (sym same) ∙ other.1) (stays value other.0 pivot other.2 other.3))
  | inr free ↦ (
      let found = true_literal value clause (sat id clause known) in
      let apart : found.0 ≢ neg_ℤ pivot = λ e. true≢false (sym found.1 ∙ ap (has clause) e ∙ free) in
      has_any (makes_true (turned value pivot)) clause found.0 found.1 (stays value found.0 pivot apart found.2))
]

-- a clause that is added has a model with the others
justified_keeps : (active : ℕ → Option (List ℤ)) (id : ℕ) (literals hints : List ℤ) → HaveNoZero active → has_no_zero literals ≡ true → IsJustified active literals hints →
    (value : ℕ → Bool) → Satisfies value active → HasModel (with_clause id literals active)
justified_keeps active id literals hints clean no_zero (inl implied) value sat =
    (value, with_each (λ clause. makes_some value clause ≡ true) id literals active (implied_true active literals hints clean no_zero implied value sat) sat)
justified_keeps active id [] hints clean no_zero (inr (reached, reaches, rat)) value sat = absurd rat
justified_keeps active id (pivot ∷ rest) hints clean no_zero (inr (reached, reaches, rat)) value sat = elim (cases_Bool (makes_some value (pivot ∷ rest))) [
  | inl holds ↦ (value, with_each (λ clause. makes_some value clause ≡ true) id (pivot ∷ rest) active holds sat)
  | inr none ↦ (
      let all = reached_true active value clean sat (first_hints hints) (negated (pivot ∷ rest)) reached (negations_true value (pivot ∷ rest) no_zero none) reaches in (
        turned value pivot,
        with_each (λ clause. makes_some (turned value pivot) clause ≡ true) id (pivot ∷ rest) active
            (or_left (makes_true (turned value pivot) pivot) (makes_some (turned value pivot) rest) (turned_pivot value pivot))
            (opposed_true active value clean sat pivot reached (groups_of hints) all rat.0 rat.1),
      ))
]

pub step_keeps : (active : ℕ → Option (List ℤ)) (step : Step) → HaveNoZero active → is_step step ≡ true → IsRight active step → HasModel active → HasModel (after active step)
step_keeps active (Addition id literals hints) clean ok (free, why) (value, sat) = justified_keeps active id literals hints clean (clause_no_zero 4194304 literals ok) why value sat
step_keeps active (Deletion first ids) clean ok right (value, sat) = (value, without_each (λ clause. makes_some value clause ≡ true) ids active sat)

-- after the empty clause there is no model
no_model_at_end : (active : ℕ → Option (List ℤ)) (step : Step) → ends step ≡ true → HasModel (after active step) → ⊥
no_model_at_end active (Addition id [] hints) end (value, sat) = false≢true (sat id [] (cond-true (id == id) (Some []) (active id) (eq-eqb id id refl)))
no_model_at_end active (Addition id (z ∷ literals) hints) end model = suc_not_zero (length literals) end
no_model_at_end active (Deletion first ids) end model = false≢true end

no_model_left : (steps : List Step) (active : ℕ → Option (List ℤ)) → HaveNoZero active → are_steps steps ≡ true → Accepts active steps → HasModel active → ⊥
no_model_left [] active clean ok h model = h
no_model_left (step ∷ steps) active clean ok (right, inl end) model =
    let parts = and_parts (is_step step) (are_steps steps) ok in
    no_model_at_end active step end (step_keeps active step clean parts.0 right model)
no_model_left (step ∷ steps) active clean ok (right, inr later) model =
    let parts = and_parts (is_step step) (are_steps steps) ok in
    no_model_left steps (after active step) (step_no_zero active step clean parts.0) parts.1 later (step_keeps active step clean parts.0 right model)

-- what holds of each clause holds of a numbered one
each_numbered : (p : List ℤ → Bool) (clauses : List (List ℤ)) → list_all p clauses ≡ true → (id : ℕ) (clause : List ℤ) → numbered clauses id ≡ Some clause → p clause ≡ true
each_numbered p clauses all zero clause e = absurd (none-some clause e)
each_numbered p clauses all (suc k) clause e = each_got p clauses k clause all e

units_all : (p : List ℤ → Bool) (q : ℤ → Bool) → ((z : ℤ) → q z ≡ true → p (z ∷ []) ≡ true) → (cube : List ℤ) → list_all q cube ≡ true → list_all p (map (λ literal. literal ∷ []) cube) ≡ true
units_all p q h [] all = refl
units_all p q h (z ∷ cube) all =
    let parts = and_parts (q z) (list_all q cube) all in
    and_from _ _ (h z parts.0) (units_all p q h cube parts.1)

-- each literal of a cube without 0 is not 0
nonzero_all : (cube : List ℤ) → has_no_zero cube ≡ true → list_all (λ z. has_no_zero (z ∷ [])) cube ≡ true
nonzero_all [] h = refl
nonzero_all (z ∷ cube) h =
    let parts = or_parts (int_eq z (pos 0)) (has cube (pos 0)) (not-true (has (z ∷ cube) (pos 0)) h) in
    and_from _ _ (not_from_false _ (or_from (int_eq z (pos 0)) false parts.0 refl)) (nonzero_all cube (not_from_false (has cube (pos 0)) parts.1))

pub no_model : (clauses : List (List ℤ)) (cube : List ℤ) (steps : List Step) → list_all has_no_zero clauses ≡ true → has_no_zero cube ≡ true → are_steps steps ≡ true → IsAccepted clauses cube steps →
    HasNoModelIn clauses cube
no_model clauses cube steps clean cube_clean ok h value model makes =
    let units = map (λ (literal : ℤ). literal ∷ []) cube in
    let all_clean : list_all has_no_zero (clauses ++ units) ≡ true = list_all-append has_no_zero clauses units ∙ and_from _ _ clean (units_all has_no_zero (λ z. has_no_zero (z ∷ [])) (λ z e. e) cube (nonzero_all cube cube_clean)) in
    let all_true : list_all (makes_some value) (clauses ++ units) ≡ true = list_all-append (makes_some value) clauses units ∙ and_from _ _ model (units_all (makes_some value) (makes_true value) (λ z e. or_left (makes_true value z) false e) cube makes) in
    no_model_left steps (at_start clauses cube) (each_numbered has_no_zero (clauses ++ units) all_clean) ok h (value, each_numbered (makes_some value) (clauses ++ units) all_true)

-- the clauses of a formula have no 0
pub formula_no_zero : (most : ℕ) (clauses : List (List ℤ)) → list_all (is_clause_up_to most) clauses ≡ true → list_all has_no_zero clauses ≡ true
formula_no_zero most [] h = refl
formula_no_zero most (clause ∷ clauses) h =
    let parts = and_parts (is_clause_up_to most clause) (list_all (is_clause_up_to most) clauses) h in
    and_from _ _ (clause_no_zero most clause parts.0) (formula_no_zero most clauses parts.1)

pub cube_no_zero : (cube : List ℤ) → is_clause cube ≡ true → has_no_zero cube ≡ true
cube_no_zero cube h = clause_no_zero 4194304 cube h
