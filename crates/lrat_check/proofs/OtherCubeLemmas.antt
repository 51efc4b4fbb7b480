-- An accepted derivation that does not rest on the cube is accepted for other cubes.
use Rattle.std.proofs.Common.{◌≡◌, ◌⊎◌, ℕ, zero, suc, ◌+◌, ◌-◌, ◌<◌, ◌≤◌, Bool, true, false, not, cond, List, [], ◌∷◌, ◌++◌, map, length, refl, ap, sym, ◌∙◌, inl, inr, ◌||◌, ◌&&◌, arith}
use Rattle.std.specs.Prelude.{ℤ, pos, negsuc, neg_ℤ, nat_abs, nat_le, nat_lt, Option, Some, None, ◌==◌}
use Rattle.std.specs.List.{list_any, list_all, slice_get}
use Rattle.std.specs.Ordering.{int_eq}
use Rattle.std.proofs.lemmas.Bool.{cases_lt, le-leb, leb-true, ltb-true}
use Rattle.std.proofs.lemmas.Bool.{cases_Bool, or_cases, or_left, or_right, and_parts, true≢false, false≢true, false_from_ne_true, or_from, eqb-true}
use Rattle.std.proofs.lemmas.Option.{same_Some, none-some}
use Rattle.lrat_check.specs.Active.{at_start, after}
use Rattle.lrat_check.specs.Checked.{IsRight, Accepts, IsAccepted}
use Rattle.lrat_check.specs.Hints.{Group, has_group, first_hints, groups_of}
use Rattle.lrat_check.specs.Justified.{IsJustified}
use Rattle.lrat_check.specs.OtherCubes.{is_outside, names_outside, opposes_pivot, opposes_no_more, AreServed}
use Rattle.lrat_check.specs.Propagation.{has}
use Rattle.lrat_check.specs.Rat.{Reaches, others, IsSettled, AreSettled, HasAllGroups}
use Rattle.lrat_check.specs.Refuted.{Refutes, negated}
use Rattle.lrat_check.specs.declared.derivation.Step.{Step}
use Rattle.lrat_check.specs.declared.derivation.Step.TheVariants.{Addition, Deletion}
use Rattle.lrat_check.proofs.Counting.ActiveLemmas.{behind, nothing_at, unit_of}

-- the same clauses are active under the ids that are outside
abbrev Agree : (ℕ → Bool) → (ℕ → Option (List ℤ)) → (ℕ → Option (List ℤ)) → Type 0
Agree outside f g = (id : ℕ) → outside id ≡ true → f id ≡ g id

-- each group is of an id outside, and so are its hints
abbrev AreOutside : (ℕ → Bool) → List Group → Type 0
AreOutside outside [] = Unit {0}
AreOutside outside (group ∷ groups) = (outside group.id ≡ true) × (list_all outside group.hints ≡ true) × AreOutside outside groups

module _ (outside : ℕ → Bool) where
  refutes_too : (f g : ℕ → Option (List ℤ)) → Agree outside f g → (hints : List ℕ) (trues : List ℤ) → list_all outside hints ≡ true → Refutes f trues hints → Refutes g trues hints
  refutes_too f g same [] trues out h = h
  refutes_too f g same (hint ∷ hints) trues out (clause, known, inl false_clause) =
      (clause, sym (same hint (and_parts (outside hint) (list_all outside hints) out).0) ∙ known, inl false_clause)
  refutes_too f g same (hint ∷ hints) trues out (clause, known, inr (unit, is, later)) =
      let parts = and_parts (outside hint) (list_all outside hints) out in
      (clause, sym (same hint parts.0) ∙ known, inr (unit, is, refutes_too f g same hints (trues ++ unit ∷ []) parts.1 later))

  reaches_too : (f g : ℕ → Option (List ℤ)) → Agree outside f g → (hints : List ℕ) (trues reached : List ℤ) → list_all outside hints ≡ true → Reaches f trues hints reached → Reaches g trues hints reached
  reaches_too f g same [] trues reached out h = h
  reaches_too f g same (hint ∷ hints) trues reached out (clause, known, (unit, is, later)) =
      let parts = and_parts (outside hint) (list_all outside hints) out in
      (clause, sym (same hint parts.0) ∙ known, (unit, is, reaches_too f g same hints (trues ++ unit ∷ []) reached parts.1 later))

  first_outside : (hints : List ℤ) → list_all (λ hint. outside (nat_abs hint)) hints ≡ true → list_all outside (first_hints hints) ≡ true
  first_outside [] out = refl
  first_outside (pos id ∷ hints) out =
      let parts = and_parts (outside id) (list_all (λ hint. outside (nat_abs hint)) hints) out in
      ap (λ b. b && list_all outside (first_hints hints)) parts.0 ∙ first_outside hints parts.1
  first_outside (negsuc n ∷ hints) out = refl

  groups_outside : (hints : List ℤ) → list_all (λ hint. outside (nat_abs hint)) hints ≡ true → AreOutside outside (groups_of hints)
  groups_outside [] out = tt
  groups_outside (pos id ∷ hints) out = groups_outside hints (and_parts (outside id) (list_all (λ hint. outside (nat_abs hint)) hints) out).1
  groups_outside (negsuc n ∷ hints) out =
      let parts = and_parts (outside (suc n)) (list_all (λ hint. outside (nat_abs hint)) hints) out in
      (parts.0, first_outside hints parts.1, groups_outside hints parts.1)

  -- an id that has a group is outside
  grouped_outside : (groups : List Group) (id : ℕ) → AreOutside outside groups → has_group groups id ≡ true → outside id ≡ true
  grouped_outside [] id out h = absurd (false≢true h)
  grouped_outside (group ∷ groups) id out h = elim (or_cases (group.id == id) (has_group groups id) h) [
    | inl here ↦ ap outside (sym (eqb-true group.id id here)) ∙ out.0
    | inr there ↦ grouped_outside groups id out.2 there
  ]

  settled_too : (f g : ℕ → Option (List ℤ)) → Agree outside f g → (pivot : ℤ) (reached : List ℤ) (group : Group) → outside group.id ≡ true → list_all outside group.hints ≡ true →
      IsSettled f pivot reached group → IsSettled g pivot reached group
  settled_too f g same pivot reached group out hints_out (clause, known, holds, inl true_other) = (clause, sym (same group.id out) ∙ known, holds, inl true_other)
  settled_too f g same pivot reached group out hints_out (clause, known, holds, inr refutes) =
      (clause, sym (same group.id out) ∙ known, holds, inr (refutes_too f g same group.hints (reached ++ negated (others pivot clause)) hints_out refutes))

  all_settled_too : (f g : ℕ → Option (List ℤ)) → Agree outside f g → (pivot : ℤ) (reached : List ℤ) (groups : List Group) → AreOutside outside groups → AreSettled f pivot reached groups → AreSettled g pivot reached groups
  all_settled_too f g same pivot reached [] out h = h
  all_settled_too f g same pivot reached (group ∷ groups) out h =
      (settled_too f g same pivot reached group out.0 out.1 h.0, all_settled_too f g same pivot reached groups out.2 h.1)

-- Two sets of active clauses that agree outside. The first has each of these literals under an id that is not outside, and the second has
-- under such ids no others than those.
record AreAlike (outside : ℕ → Bool) (firsts seconds : List ℤ) (f g : ℕ → Option (List ℤ)) : Type 0 where
  same : Agree outside f g
  held : (z : ℤ) → has firsts z ≡ true → (id : ℕ) × (clause : List ℤ) × (outside id ≡ false) × (f id ≡ Some clause) × (has clause z ≡ true)
  only : (id : ℕ) (clause : List ℤ) → outside id ≡ false → g id ≡ Some clause → (z : ℤ) → has clause z ≡ true → has seconds z ≡ true

module _ (outside : ℕ → Bool) (firsts seconds : List ℤ) where
  all_groups_too : (f g : ℕ → Option (List ℤ)) → AreAlike outside firsts seconds f g → (pivot : ℤ) (groups : List Group) → AreOutside outside groups →
      (has seconds (neg_ℤ pivot) ≡ true → has firsts (neg_ℤ pivot) ≡ true) → HasAllGroups f pivot groups → HasAllGroups g pivot groups
  all_groups_too f g alike pivot groups out more all id clause known opposed = elim (cases_Bool (outside id)) [
    | inl is_out ↦ all id clause (alike.same id is_out ∙ known) opposed
    | inr is_in ↦ (
        let (place, own, inside, there, in_own) = alike.held (neg_ℤ pivot) (more (alike.only id clause is_in known (neg_ℤ pivot) opposed)) in
        absurd (true≢false (sym (grouped_outside outside groups place out (all place own there in_own)) ∙ inside)))
  ]

  justified_too : (f g : ℕ → Option (List ℤ)) → AreAlike outside firsts seconds f g → (literals hints : List ℤ) → list_all (λ hint. outside (nat_abs hint)) hints ≡ true →
      (opposes_pivot seconds literals ≡ true → opposes_pivot firsts literals ≡ true) → IsJustified f literals hints → IsJustified g literals hints
  justified_too f g alike literals hints out more (inl (inl taut)) = inl (inl taut)
  justified_too f g alike literals hints out more (inl (inr refutes)) =
      inl (inr (refutes_too outside f g alike.same (first_hints hints) (negated literals) (first_outside outside hints out) refutes))
  justified_too f g alike [] hints out more (inr (reached, reaches, rat)) = absurd rat
  justified_too f g alike (pivot ∷ rest) hints out more (inr (reached, reaches, rat)) =
      let groups = groups_outside outside hints out in
      inr (
        reached,
        reaches_too outside f g alike.same (first_hints hints) (negated (pivot ∷ rest)) reached (first_outside outside hints out) reaches,
        (all_settled_too outside f g alike.same pivot reached (groups_of hints) groups rat.0, all_groups_too f g alike pivot (groups_of hints) groups more rat.1),
      )

-- what opposes no more pivots
no_more : (a b : Bool) → (a || not b) ≡ true → b ≡ true → a ≡ true
no_more true b h e = refl
no_more false true h e = h
no_more false false h e = e

-- an id of the cube is none that is named
apart : (outside : ℕ → Bool) (named id : ℕ) → outside named ≡ true → outside id ≡ false → (named == id) ≡ false
apart outside named id out inside = false_from_ne_true (named == id) (λ e. true≢false (sym out ∙ ap outside (eqb-true named id e) ∙ inside))

none_named : (outside : ℕ → Bool) (ids : List ℕ) (id : ℕ) → list_all outside ids ≡ true → outside id ≡ false → list_any (λ n. n == id) ids ≡ false
none_named outside [] id out inside = refl
none_named outside (named ∷ ids) id out inside =
    let parts = and_parts (outside named) (list_all outside ids) out in
    or_from (named == id) (list_any (λ n. n == id) ids) (apart outside named id parts.0 inside) (none_named outside ids id parts.1 inside)

module _ (count literals : ℕ) where
  -- a step leaves what is active under the cube's ids
  left_inside : (f : ℕ → Option (List ℤ)) (step : Step) (id : ℕ) → names_outside count literals step ≡ true → is_outside count literals id ≡ false → after f step id ≡ f id
  left_inside f (Addition own added hints) id out inside =
      ap (λ b. cond b (Some added) (f id)) (apart (is_outside count literals) own id (and_parts (is_outside count literals own) (list_all (λ hint. is_outside count literals (nat_abs hint)) hints) out).0 inside)
  left_inside f (Deletion first ids) id out inside = ap (λ b. cond b None (f id)) (none_named (is_outside count literals) ids id out inside)

  agree_after : (f g : ℕ → Option (List ℤ)) (step : Step) → Agree (is_outside count literals) f g → Agree (is_outside count literals) (after f step) (after g step)
  agree_after f g (Addition own added hints) same id out = ap (λ o. cond (own == id) (Some added) o) (same id out)
  agree_after f g (Deletion first ids) same id out = ap (λ o. cond (list_any (λ n. n == id) ids) None o) (same id out)

  alike_after : (firsts seconds : List ℤ) (f g : ℕ → Option (List ℤ)) (step : Step) → names_outside count literals step ≡ true → AreAlike (is_outside count literals) firsts seconds f g →
      AreAlike (is_outside count literals) firsts seconds (after f step) (after g step)
  alike_after firsts seconds f g step out alike = record {
    same = agree_after f g step alike.same;
    held = λ z h. let (id, clause, inside, there, holds) = alike.held z h in (id, clause, inside, left_inside f step id out inside ∙ there, holds);
    only = λ id clause inside there z h. alike.only id clause inside (sym (left_inside g step id out inside) ∙ there) z h;
  }

  right_too : (firsts seconds : List ℤ) (f g : ℕ → Option (List ℤ)) (step : Step) → names_outside count literals step ≡ true → opposes_no_more firsts seconds step ≡ true →
      AreAlike (is_outside count literals) firsts seconds f g → IsRight f step → IsRight g step
  right_too firsts seconds f g (Addition own added hints) out more alike (free, why) =
      let parts = and_parts (is_outside count literals own) (list_all (λ hint. is_outside count literals (nat_abs hint)) hints) out in
      (sym (alike.same own parts.0) ∙ free, justified_too (is_outside count literals) firsts seconds f g alike added hints parts.1 (no_more (opposes_pivot firsts added) (opposes_pivot seconds added) more) why)
  right_too firsts seconds f g (Deletion first ids) out more alike right = tt

  accepts_too : (firsts seconds : List ℤ) (steps : List Step) (f g : ℕ → Option (List ℤ)) →
      list_all (λ step. names_outside count literals step && opposes_no_more firsts seconds step) steps ≡ true → AreAlike (is_outside count literals) firsts seconds f g → Accepts f steps → Accepts g steps
  accepts_too firsts seconds [] f g served alike h = h
  accepts_too firsts seconds (step ∷ steps) f g served alike (right, inl end) =
      let parts = and_parts (names_outside count literals step && opposes_no_more firsts seconds step) (list_all (λ s. names_outside count literals s && opposes_no_more firsts seconds s) steps) served in
      let here = and_parts (names_outside count literals step) (opposes_no_more firsts seconds step) parts.0 in
      (right_too firsts seconds f g step here.0 here.1 alike right, inl end)
  accepts_too firsts seconds (step ∷ steps) f g served alike (right, inr later) =
      let parts = and_parts (names_outside count literals step && opposes_no_more firsts seconds step) (list_all (λ s. names_outside count literals s && opposes_no_more firsts seconds s) steps) served in
      let here = and_parts (names_outside count literals step) (opposes_no_more firsts seconds step) parts.0 in (
        right_too firsts seconds f g step here.0 here.1 alike right,
        inr (accepts_too firsts seconds steps (after f step) (after g step) parts.1 (alike_after firsts seconds f g step here.0 alike) later),
      )

-- the clauses before others stay where they are
in_front : (xs ys zs : List (List ℤ)) (p : ℕ) → p < length xs → slice_get (xs ++ ys) p ≡ slice_get (xs ++ zs) p
in_front [] ys zs p h = absurd (omega (arith, h))
in_front (x ∷ xs) ys zs zero h = refl
in_front (x ∷ xs) ys zs (suc p) h = in_front xs ys zs p (omega (arith, h))

-- an id outside is one of the clauses before the cube, or behind it
outside_cases : (count literals id : ℕ) → is_outside count literals id ≡ true → (id ≤ count) ⊎ (count + literals < id)
outside_cases count literals id h = elim (or_cases (nat_le id count) (nat_lt (count + literals) id) h) [
  | inl low ↦ inl (leb-true id count low)
  | inr high ↦ inr (ltb-true (count + literals) id high)
]

inside_above : (count literals id : ℕ) → is_outside count literals id ≡ false → count < id
inside_above count literals id h = elim (cases_lt count id) [
  | inl above ↦ above
  | inr below ↦ absurd (true≢false (sym (or_left (nat_le id count) (nat_lt (count + literals) id) (le-leb id count below)) ∙ h))
]

is_inside : (count literals id : ℕ) → count < id → id ≤ count + literals → is_outside count literals id ≡ false
is_inside count literals id above within = false_from_ne_true (is_outside count literals id) (λ h. elim (outside_cases count literals id h) [
  | inl low ↦ omega (arith, above, low)
  | inr high ↦ omega (arith, within, high)
])

start_same : (clauses : List (List ℤ)) (first second : List ℤ) → length second ≡ length first → Agree (is_outside (length clauses) (length first)) (at_start clauses first) (at_start clauses second)
start_same clauses first second e zero out = refl
start_same clauses first second e (suc p) out = elim (outside_cases (length clauses) (length first) (suc p) out) [
  | inl low ↦ in_front clauses (map unit_of first) (map unit_of second) p (omega (arith, low))
  | inr high ↦
      nothing_at clauses first (suc p) (omega arith) (omega (arith, high)) (omega (arith, high))
      ∙ sym (nothing_at clauses second (suc p) (omega arith) (omega (arith, high)) (omega (arith, high, e)))
]

-- a literal of the cube has a unit clause
place_in : (cube : List ℤ) (z : ℤ) → has cube z ≡ true → (k : ℕ) × (clause : List ℤ) × (k < length cube) × (slice_get (map unit_of cube) k ≡ Some clause) × (has clause z ≡ true)
place_in [] z h = absurd (false≢true h)
place_in (y ∷ cube) z h = elim (or_cases (int_eq y z) (has cube z) h) [
  | inl here ↦ (0, y ∷ [], omega arith, refl, or_left (int_eq y z) false here)
  | inr there ↦ (let (k, clause, within, got, holds) = place_in cube z there in (suc k, clause, omega (arith, within), got, holds))
]

unit_literal : (cube : List ℤ) (k : ℕ) (clause : List ℤ) (z : ℤ) → slice_get (map unit_of cube) k ≡ Some clause → has clause z ≡ true → has cube z ≡ true
unit_literal [] k clause z e h = absurd (none-some clause e)
unit_literal (y ∷ cube) zero clause z e h =
    let alone : has (y ∷ []) z ≡ true = ap (λ c. has c z) (same_Some (y ∷ []) clause e) ∙ h in
    elim (or_cases (int_eq y z) false alone) [ inl here ↦ or_left (int_eq y z) (has cube z) here | inr none ↦ absurd (false≢true none) ]
unit_literal (y ∷ cube) (suc k) clause z e h = or_right (int_eq y z) (has cube z) (unit_literal cube k clause z e h)

held_at_start : (clauses : List (List ℤ)) (cube : List ℤ) (z : ℤ) → has cube z ≡ true →
    (id : ℕ) × (clause : List ℤ) × (is_outside (length clauses) (length cube) id ≡ false) × (at_start clauses cube id ≡ Some clause) × (has clause z ≡ true)
held_at_start clauses cube z h =
    let (k, clause, within, got, holds) = place_in cube z h in
    let past : length clauses ≤ length clauses + k = omega arith in
    let back : length clauses + k - length clauses ≡ k = omega arith in
    let there : at_start clauses cube (suc (length clauses + k)) ≡ Some clause = behind clauses (map unit_of cube) (length clauses + k) past ∙ ap (slice_get (map unit_of cube)) back ∙ got in
    (suc (length clauses + k), clause, is_inside (length clauses) (length cube) (suc (length clauses + k)) (omega arith) (omega (arith, within)), there, holds)

only_at_start : (clauses : List (List ℤ)) (cube : List ℤ) (literals id : ℕ) (clause : List ℤ) → is_outside (length clauses) literals id ≡ false → at_start clauses cube id ≡ Some clause → (z : ℤ) → has clause z ≡ true → has cube z ≡ true
only_at_start clauses cube literals zero clause inside e z h = absurd (none-some clause e)
only_at_start clauses cube literals (suc p) clause inside e z h =
    let above = inside_above (length clauses) literals (suc p) inside in
    unit_literal cube (p - length clauses) clause z (sym (behind clauses (map unit_of cube) p (omega (arith, above))) ∙ e) h

pub accepted_too : (clauses : List (List ℤ)) (first second : List ℤ) (steps : List Step) → AreServed (length clauses) first second steps → IsAccepted clauses first steps → IsAccepted clauses second steps
accepted_too clauses first second steps served h =
    let alike : AreAlike (is_outside (length clauses) (length first)) first second (at_start clauses first) (at_start clauses second) = record {
      same = start_same clauses first second served.0;
      held = held_at_start clauses first;
      only = only_at_start clauses second (length first);
    } in
    accepts_too (length clauses) (length first) first second steps (at_start clauses first) (at_start clauses second) served.1 alike h
