-- A derivation is accepted or refused, in one way.
use Rattle.std.proofs.Common.{◌≡◌, ◌≢◌, ◌⊎◌, ℕ, zero, suc, ◌+◌, ◌<◌, ◌≤◌, true, eqb, length, map, ap, arith, List, [], ◌∷◌, ◌++◌, refl, sym, ◌∙◌, subst, inl, inr, append_assoc, append-nil}
use Rattle.std.specs.Prelude.{ℤ, neg_ℤ, Option, Some, None, IsSome}
use Rattle.std.specs.List.{list_any}
use Rattle.std.proofs.lemmas.Bool.{cases_Bool, cases_lt, cond-false, ne_eqb, false≢true, true≢false}
use Rattle.std.proofs.lemmas.Option.{same_Some, none-some, slice_get_past}
use Rattle.text_lines.proofs.BoolLemmas.{hidden_none}
use Rattle.lrat_check.specs.Active.{numbered, at_start, after}
use Rattle.lrat_check.specs.Checked.{IsRight, IsWrong, ends, Accepts, Refuses, IsAccepted, IsRefused}
use Rattle.lrat_check.specs.Hints.{Group, has_group, first_hints, groups_of}
use Rattle.lrat_check.specs.Justified.{IsJustified, IsUnjustified}
use Rattle.lrat_check.specs.Rat.{Reaches, others, IsSettled, IsUnsettled, AreSettled, AreUnsettled, HasAllGroups, LacksGroup, IsRat, IsNoRat, missing}
use Rattle.lrat_check.specs.Refuted.{Refutes, FailsToRefute, negated}
use Rattle.lrat_check.specs.Propagation.{has, is_tautology, is_falsified, Falsifies, IsUnit, HasTwoUnfalsified}
use Rattle.lrat_check.specs.declared.derivation.Step.{Step}
use Rattle.lrat_check.specs.declared.derivation.Step.TheVariants.{Addition, Deletion}
use Rattle.lrat_check.specs.declared.refusal.StepFault.{StepFault}
use Rattle.lrat_check.specs.declared.refusal.StepFault.TheVariants.{UnknownHint, NotUnit, NoConflict, IdInUse, NoEmptyClause, NotOpposed, NoPivot, GroupMissing}
use Rattle.lrat_check.proofs.Justifying.PropagationLemmas.{each_has, falsified_more, unit_more, two_more, first_unit, same_unit, second_unfalsified, cases_same}

-- a clause stands in one way
one_unit : (trues clause : List ℤ) (u v : ℤ) → IsUnit trues clause u → IsUnit trues clause v → u ≡ v
one_unit trues clause u v h k = k.alone u h.among h.unfalsified

no_unit : (trues clause : List ℤ) (u : ℤ) → Falsifies trues clause → IsUnit trues clause u → ⊥
no_unit trues clause u h k = true≢false (sym (each_has (is_falsified trues) clause u h k.among) ∙ k.unfalsified)

not_two : (trues clause : List ℤ) (u : ℤ) → HasTwoUnfalsified trues clause → IsUnit trues clause u → ⊥
not_two trues clause u h k = h.distinct (k.alone h.one h.one_among h.one_unfalsified ∙ sym (k.alone h.other h.other_among h.other_unfalsified))

never_two : (trues clause : List ℤ) → Falsifies trues clause → HasTwoUnfalsified trues clause → ⊥
never_two trues clause h k = true≢false (sym (each_has (is_falsified trues) clause k.one h k.one_among) ∙ k.one_unfalsified)

-- one clause under an id
one_clause : (o : Option (List ℤ)) (c d : List ℤ) → o ≡ Some c → o ≡ Some d → c ≡ d
one_clause o c d h k = same_Some c d (sym h ∙ k)

no_clause : (o : Option (List ℤ)) (c : List ℤ) → o ≡ None → o ≡ Some c → ⊥
no_clause o c h k = none-some c (sym h ∙ k)

-- the hints fail in one way
fails_once : (active : ℕ → Option (List ℤ)) (hints : List ℕ) (trues : List ℤ) (f g : StepFault) → FailsToRefute active trues hints f → FailsToRefute active trues hints g → f ≡ g
fails_once active [] trues f g h k = h ∙ sym k
fails_once active (hint ∷ hints) trues f g (inl (none, e)) (inl (same, d)) = e ∙ sym d
fails_once active (hint ∷ hints) trues f g (inl (none, e)) (inr (clause, known, k)) = absurd (no_clause (active hint) clause none known)
fails_once active (hint ∷ hints) trues f g (inr (clause, known, h)) (inl (none, d)) = absurd (no_clause (active hint) clause none known)
fails_once active (hint ∷ hints) trues f g (inr (c, known, inl (two, e))) (inr (d, same, inl (both, b))) = e ∙ sym b
fails_once active (hint ∷ hints) trues f g (inr (c, known, inl (two, e))) (inr (d, same, inr (v, is, k))) =
    absurd (not_two trues d v (subst (λ (x : List ℤ). HasTwoUnfalsified trues x) (one_clause (active hint) c d known same) two) is)
fails_once active (hint ∷ hints) trues f g (inr (c, known, inr (u, is, h))) (inr (d, same, inl (two, e))) =
    absurd (not_two trues c u (subst (λ (x : List ℤ). HasTwoUnfalsified trues x) (one_clause (active hint) d c same known) two) is)
fails_once active (hint ∷ hints) trues f g (inr (c, known, inr (u, is, h))) (inr (d, same, inr (v, other, k))) =
    let clauses = one_clause (active hint) d c same known in
    let units = one_unit trues c v u (subst (λ (x : List ℤ). IsUnit trues x v) clauses other) is in
    fails_once active hints (trues ++ u ∷ []) f g h (subst (λ (z : ℤ). FailsToRefute active (trues ++ z ∷ []) hints g) units k)

-- the hints do not both refute and fail
never_refutes_and_fails : (active : ℕ → Option (List ℤ)) (hints : List ℕ) (trues : List ℤ) (f : StepFault) → Refutes active trues hints → FailsToRefute active trues hints f → ⊥
never_refutes_and_fails active [] trues f h k = h
never_refutes_and_fails active (hint ∷ hints) trues f (c, known, h) (inl (none, e)) = no_clause (active hint) c none known
never_refutes_and_fails active (hint ∷ hints) trues f (c, known, inl all) (inr (d, same, inl (two, e))) =
    never_two trues d (subst (λ (x : List ℤ). Falsifies trues x) (one_clause (active hint) c d known same) all) two
never_refutes_and_fails active (hint ∷ hints) trues f (c, known, inl all) (inr (d, same, inr (v, is, k))) =
    no_unit trues d v (subst (λ (x : List ℤ). Falsifies trues x) (one_clause (active hint) c d known same) all) is
never_refutes_and_fails active (hint ∷ hints) trues f (c, known, inr (u, is, h)) (inr (d, same, inl (two, e))) =
    not_two trues c u (subst (λ (x : List ℤ). HasTwoUnfalsified trues x) (one_clause (active hint) d c same known) two) is
never_refutes_and_fails active (hint ∷ hints) trues f (c, known, inr (u, is, h)) (inr (d, same, inr (v, other, k))) =
    let clauses = one_clause (active hint) d c same known in
    let units = one_unit trues c v u (subst (λ (x : List ℤ). IsUnit trues x v) clauses other) is in
    never_refutes_and_fails active hints (trues ++ u ∷ []) f h (subst (λ (z : ℤ). FailsToRefute active (trues ++ z ∷ []) hints f) units k)

-- how a clause stands
data Stands (trues clause : List ℤ) : Type 0 where
  all_false : Falsifies trues clause → Stands trues clause
  is_unit : (unit : ℤ) → IsUnit trues clause unit → Stands trues clause
  has_two : HasTwoUnfalsified trues clause → Stands trues clause

stands_more : (trues clause : List ℤ) (x : ℤ) → Stands trues clause → Stands trues (clause ++ x ∷ [])
stands_more trues clause x (all_false h) =
    elim (cases_Bool (is_falsified trues x)) [
      | inl holds ↦ all_false (falsified_more trues clause x h holds)
      | inr un ↦ is_unit x (first_unit trues clause x h un)
    ]
stands_more trues clause x (is_unit unit h) =
    elim (cases_Bool (is_falsified trues x)) [
      | inl holds ↦ is_unit unit (unit_more trues clause unit x h holds)
      | inr un ↦ elim (cases_same unit x) [
        | inl same ↦ is_unit unit (same_unit trues clause unit x h same)
        | inr apart ↦ has_two (second_unfalsified trues clause unit x h apart un)
      ]
    ]
stands_more trues clause x (has_two h) = has_two (two_more trues clause x h)

stands_on : (trues done rest : List ℤ) → Stands trues done → Stands trues (done ++ rest)
stands_on trues done [] h = subst (λ (l : List ℤ). Stands trues l) (sym (append-nil done)) h
stands_on trues done (x ∷ rest) h = subst (λ (l : List ℤ). Stands trues l) (append_assoc done (x ∷ []) rest) (stands_on trues (done ++ x ∷ []) rest (stands_more trues done x h))

stands : (trues clause : List ℤ) → Stands trues clause
stands trues clause = stands_on trues [] clause (all_false refl)

-- hints refute or fail
abbrev RefutesOrFails : (ℕ → Option (List ℤ)) → List ℤ → List ℕ → Type 0
RefutesOrFails active trues hints = Refutes active trues hints ⊎ ((f : StepFault) × FailsToRefute active trues hints f)

known_hint : (active : ℕ → Option (List ℤ)) (trues : List ℤ) (hint : ℕ) (hints : List ℕ) (clause : List ℤ) → active hint ≡ Some clause → Stands trues clause →
    ((unit : ℤ) → RefutesOrFails active (trues ++ unit ∷ []) hints) → RefutesOrFails active trues (hint ∷ hints)
known_hint active trues hint hints clause known (all_false h) next = inl (clause, known, inl h)
known_hint active trues hint hints clause known (has_two h) next = inr (NotUnit, inr (clause, known, inl (h, refl)))
known_hint active trues hint hints clause known (is_unit unit h) next =
    elim (next unit) [
      | inl refutes ↦ inl (clause, known, inr (unit, h, refutes))
      | inr (f, fails) ↦ inr (f, inr (clause, known, inr (unit, h, fails)))
    ]

next_hint : (active : ℕ → Option (List ℤ)) (trues : List ℤ) (hint : ℕ) (hints : List ℕ) (o : Option (List ℤ)) → active hint ≡ o →
    ((unit : ℤ) → RefutesOrFails active (trues ++ unit ∷ []) hints) → RefutesOrFails active trues (hint ∷ hints)
next_hint active trues hint hints None e next = inr (UnknownHint, inl (e, refl))
next_hint active trues hint hints (Some clause) e next = known_hint active trues hint hints clause e (stands trues clause) next

refutes_or_fails : (active : ℕ → Option (List ℤ)) (hints : List ℕ) (trues : List ℤ) → RefutesOrFails active trues hints
refutes_or_fails active [] trues = inr (NoConflict, refl)
refutes_or_fails active (hint ∷ hints) trues = next_hint active trues hint hints (active hint) refl (λ unit. refutes_or_fails active hints (trues ++ unit ∷ []))

-- hints that reach their end fail for want of a conflict, and the other way round
pub reach_fails : (active : ℕ → Option (List ℤ)) (hints : List ℕ) (trues reached : List ℤ) → Reaches active trues hints reached → FailsToRefute active trues hints NoConflict
reach_fails active [] trues reached e = refl
reach_fails active (hint ∷ hints) trues reached (clause, known, (unit, is, later)) = inr (clause, known, inr (unit, is, reach_fails active hints (trues ++ unit ∷ []) reached later))

fail_reaches : (active : ℕ → Option (List ℤ)) (hints : List ℕ) (trues : List ℤ) (fault : StepFault) → fault ≡ NoConflict → FailsToRefute active trues hints fault → (reached : List ℤ) × Reaches active trues hints reached
fail_reaches active [] trues fault e h = (trues, refl)
fail_reaches active (hint ∷ hints) trues fault e (inl (none, d)) = absurd (cc)
fail_reaches active (hint ∷ hints) trues fault e (inr (clause, known, inl (two, d))) = absurd (cc)
fail_reaches active (hint ∷ hints) trues fault e (inr (clause, known, inr (unit, is, later))) =
    let end = fail_reaches active hints (trues ++ unit ∷ []) fault e later in
    (end.0, (clause, known, (unit, is, end.1)))

reach_once : (active : ℕ → Option (List ℤ)) (hints : List ℕ) (trues reached other : List ℤ) → Reaches active trues hints reached → Reaches active trues hints other → reached ≡ other
reach_once active [] trues reached other h k = h ∙ sym k
reach_once active (hint ∷ hints) trues reached other (c, known, (u, is, h)) (d, same, (v, too, k)) =
    let clauses = one_clause (active hint) d c same known in
    let units = one_unit trues c v u (subst (λ (x : List ℤ). IsUnit trues x v) clauses too) is in
    reach_once active hints (trues ++ u ∷ []) reached other h (subst (λ (z : ℤ). Reaches active (trues ++ z ∷ []) hints other) units k)

-- a group is settled or not, for one reason
unsettled_once : (active : ℕ → Option (List ℤ)) (pivot : ℤ) (reached : List ℤ) (group : Group) (f g : StepFault) → IsUnsettled active pivot reached group f → IsUnsettled active pivot reached group g → f ≡ g
unsettled_once active pivot reached group f g (inl (none, e)) (inl (same, d)) = e ∙ sym d
unsettled_once active pivot reached group f g (inl (none, e)) (inr (d, known, k)) = absurd (no_clause (active group.id) d none known)
unsettled_once active pivot reached group f g (inr (c, known, h)) (inl (none, d)) = absurd (no_clause (active group.id) c none known)
unsettled_once active pivot reached group f g (inr (c, known, inl (free, e))) (inr (d, same, inl (too, b))) = e ∙ sym b
unsettled_once active pivot reached group f g (inr (c, known, inl (free, e))) (inr (d, same, inr (opposed, none, k))) =
    absurd (true≢false (sym opposed ∙ ap (λ l. has l (neg_ℤ pivot)) (one_clause (active group.id) d c same known) ∙ free))
unsettled_once active pivot reached group f g (inr (c, known, inr (opposed, none, h))) (inr (d, same, inl (free, e))) =
    absurd (true≢false (sym opposed ∙ ap (λ l. has l (neg_ℤ pivot)) (one_clause (active group.id) c d known same) ∙ free))
unsettled_once active pivot reached group f g (inr (c, known, inr (opposed, none, h))) (inr (d, same, inr (too, off, k))) =
    fails_once active group.hints (reached ++ negated (others pivot c)) f g h
    (subst (λ (x : List ℤ). FailsToRefute active (reached ++ negated (others pivot x)) group.hints g) (one_clause (active group.id) d c same known) k)

never_settled_and_not : (active : ℕ → Option (List ℤ)) (pivot : ℤ) (reached : List ℤ) (group : Group) (f : StepFault) → IsSettled active pivot reached group → IsUnsettled active pivot reached group f → ⊥
never_settled_and_not active pivot reached group f (c, known, opposed, h) (inl (none, e)) = no_clause (active group.id) c none known
never_settled_and_not active pivot reached group f (c, known, opposed, h) (inr (d, same, inl (free, e))) =
    true≢false (sym opposed ∙ ap (λ l. has l (neg_ℤ pivot)) (one_clause (active group.id) c d known same) ∙ free)
never_settled_and_not active pivot reached group f (c, known, opposed, inl holds) (inr (d, same, inr (too, none, k))) =
    true≢false (sym holds ∙ ap (λ l. list_any (has reached) (others pivot l)) (one_clause (active group.id) c d known same) ∙ none)
never_settled_and_not active pivot reached group f (c, known, opposed, inr refutes) (inr (d, same, inr (too, none, k))) =
    never_refutes_and_fails active group.hints (reached ++ negated (others pivot c)) f refutes
    (subst (λ (x : List ℤ). FailsToRefute active (reached ++ negated (others pivot x)) group.hints f) (one_clause (active group.id) d c same known) k)

settled_from : (active : ℕ → Option (List ℤ)) (pivot : ℤ) (reached : List ℤ) (group : Group) (o : Option (List ℤ)) → active group.id ≡ o → IsSettled active pivot reached group ⊎ ((f : StepFault) × IsUnsettled active pivot reached group f)
settled_from active pivot reached group None e = inr (UnknownHint, inl (e, refl))
settled_from active pivot reached group (Some c) e = elim (cases_Bool (has c (neg_ℤ pivot))) [
  | inr free ↦ inr (NotOpposed, inr (c, e, inl (free, refl)))
  | inl opposed ↦ elim (cases_Bool (list_any (has reached) (others pivot c))) [
    | inl holds ↦ inl (c, e, opposed, inl holds)
    | inr none ↦ elim (refutes_or_fails active group.hints (reached ++ negated (others pivot c))) [
      | inl refutes ↦ inl (c, e, opposed, inr refutes)
      | inr (f, fails) ↦ inr (f, inr (c, e, inr (opposed, none, fails)))
    ]
  ]
]

settled_or_not : (active : ℕ → Option (List ℤ)) (pivot : ℤ) (reached : List ℤ) (group : Group) → IsSettled active pivot reached group ⊎ ((f : StepFault) × IsUnsettled active pivot reached group f)
settled_or_not active pivot reached group = settled_from active pivot reached group (active group.id) refl

-- all groups
groups_once : (active : ℕ → Option (List ℤ)) (pivot : ℤ) (reached : List ℤ) (groups : List Group) (f g : StepFault) → AreUnsettled active pivot reached groups f → AreUnsettled active pivot reached groups g → f ≡ g
groups_once active pivot reached [] f g h k = absurd h
groups_once active pivot reached (group ∷ groups) f g (inl h) (inl k) = unsettled_once active pivot reached group f g h k
groups_once active pivot reached (group ∷ groups) f g (inl h) (inr (settled, k)) = absurd (never_settled_and_not active pivot reached group f settled h)
groups_once active pivot reached (group ∷ groups) f g (inr (settled, h)) (inl k) = absurd (never_settled_and_not active pivot reached group g settled k)
groups_once active pivot reached (group ∷ groups) f g (inr (settled, h)) (inr (too, k)) = groups_once active pivot reached groups f g h k

never_all_and_not : (active : ℕ → Option (List ℤ)) (pivot : ℤ) (reached : List ℤ) (groups : List Group) (f : StepFault) → AreSettled active pivot reached groups → AreUnsettled active pivot reached groups f → ⊥
never_all_and_not active pivot reached [] f h k = k
never_all_and_not active pivot reached (group ∷ groups) f (settled, h) (inl k) = never_settled_and_not active pivot reached group f settled k
never_all_and_not active pivot reached (group ∷ groups) f (settled, h) (inr (too, k)) = never_all_and_not active pivot reached groups f h k

all_or_not : (active : ℕ → Option (List ℤ)) (pivot : ℤ) (reached : List ℤ) (groups : List Group) → AreSettled active pivot reached groups ⊎ ((f : StepFault) × AreUnsettled active pivot reached groups f)
all_or_not active pivot reached [] = inl tt
all_or_not active pivot reached (group ∷ groups) = elim (settled_or_not active pivot reached group) [
  | inr (f, unsettled) ↦ inr (f, inl unsettled)
  | inl settled ↦ elim (all_or_not active pivot reached groups) [
    | inl later ↦ inl (settled, later)
    | inr (f, unsettled) ↦ inr (f, inr (settled, unsettled))
  ]
]

-- no clause is active under an id from this on
abbrev IsBelow : ℕ → (ℕ → Option (List ℤ)) → Type 0
IsBelow end active = (id : ℕ) → end ≤ id → active id ≡ None

-- each clause before an id has a group if it needs one, or one has none
abbrev HasGroupsBefore : ℕ → (ℕ → Option (List ℤ)) → ℤ → List Group → Type 0
HasGroupsBefore end active pivot groups = (id : ℕ) (clause : List ℤ) → id < end → active id ≡ Some clause → has clause (neg_ℤ pivot) ≡ true → has_group groups id ≡ true

abbrev HasGroupAt : (ℕ → Option (List ℤ)) → ℤ → List Group → ℕ → Type 0
HasGroupAt active pivot groups id = (clause : List ℤ) → active id ≡ Some clause → has clause (neg_ℤ pivot) ≡ true → has_group groups id ≡ true

group_at : (active : ℕ → Option (List ℤ)) (pivot : ℤ) (groups : List Group) (id : ℕ) (o : Option (List ℤ)) → active id ≡ o → HasGroupAt active pivot groups id ⊎ LacksGroup active pivot groups
group_at active pivot groups id None e = inl (λ clause known opposed. absurd (no_clause (active id) clause e known))
group_at active pivot groups id (Some c) e = elim (cases_Bool (has_group groups id)) [
  | inl there ↦ inl (λ clause known opposed. there)
  | inr lacks ↦ elim (cases_Bool (has c (neg_ℤ pivot))) [
    | inl opposed ↦ inr (id, c, e, opposed, lacks)
    | inr free ↦ inl (λ clause known opposed. absurd (true≢false (sym opposed ∙ ap (λ l. has l (neg_ℤ pivot)) (one_clause (active id) clause c known e) ∙ free)))
  ]
]

groups_before : (active : ℕ → Option (List ℤ)) (pivot : ℤ) (groups : List Group) (end : ℕ) → HasGroupsBefore end active pivot groups ⊎ LacksGroup active pivot groups
groups_before active pivot groups zero = inl (λ id clause below. absurd (omega (arith, below)))
groups_before active pivot groups (suc end) = elim (groups_before active pivot groups end) [
  | inr lacks ↦ inr lacks
  | inl before ↦ elim (group_at active pivot groups end (active end) refl) [
    | inr lacks ↦ inr lacks
    | inl here ↦ inl (λ id clause below known opposed. elim (cases_lt id end) [
      | inl earlier ↦ before id clause earlier known opposed
      | inr later ↦ (let same : end ≡ id = omega (arith, below, later) in subst (HasGroupAt active pivot groups) same here clause known opposed)
    ])
  ]
]

groups_or_not : (active : ℕ → Option (List ℤ)) (pivot : ℤ) (groups : List Group) (end : ℕ) → IsBelow end active → HasAllGroups active pivot groups ⊎ LacksGroup active pivot groups
groups_or_not active pivot groups end none = elim (groups_before active pivot groups end) [
  | inr lacks ↦ inr lacks
  | inl before ↦ inl (λ id clause known opposed. elim (cases_lt id end) [
    | inl earlier ↦ before id clause earlier known opposed
    | inr later ↦ absurd (no_clause (active id) clause (none id later) known)
  ])
]

never_lacks_and_has : (active : ℕ → Option (List ℤ)) (pivot : ℤ) (groups : List Group) → HasAllGroups active pivot groups → LacksGroup active pivot groups → ⊥
never_lacks_and_has active pivot groups has_all (id, clause, known, opposed, lacks) = true≢false (sym (has_all id clause known opposed) ∙ lacks)

-- a clause may be added by its groups or not, for one reason
no_rat_once : (active : ℕ → Option (List ℤ)) (clause : List ℤ) (groups : List Group) (reached : List ℤ) (f g : StepFault) → IsNoRat active clause groups reached f → IsNoRat active clause groups reached g → f ≡ g
no_rat_once active [] [] reached f g h k = h ∙ sym k
no_rat_once active [] (group ∷ groups) reached f g h k = h ∙ sym k
no_rat_once active (pivot ∷ rest) groups reached f g (inl h) (inl k) = groups_once active pivot reached groups f g h k
no_rat_once active (pivot ∷ rest) groups reached f g (inl h) (inr (settled, lacks, e)) = absurd (never_all_and_not active pivot reached groups f settled h)
no_rat_once active (pivot ∷ rest) groups reached f g (inr (settled, lacks, e)) (inl k) = absurd (never_all_and_not active pivot reached groups g settled k)
no_rat_once active (pivot ∷ rest) groups reached f g (inr (settled, lacks, e)) (inr (too, lacking, d)) = e ∙ sym d

never_rat_and_not : (active : ℕ → Option (List ℤ)) (clause : List ℤ) (groups : List Group) (reached : List ℤ) (f : StepFault) → IsRat active clause groups reached → IsNoRat active clause groups reached f → ⊥
never_rat_and_not active [] groups reached f h k = h
never_rat_and_not active (pivot ∷ rest) groups reached f (settled, has_all) (inl k) = never_all_and_not active pivot reached groups f settled k
never_rat_and_not active (pivot ∷ rest) groups reached f (settled, has_all) (inr (too, lacks, e)) = never_lacks_and_has active pivot groups has_all lacks

rat_or_not : (active : ℕ → Option (List ℤ)) (end : ℕ) → IsBelow end active → (clause : List ℤ) (groups : List Group) (reached : List ℤ) → IsRat active clause groups reached ⊎ ((f : StepFault) × IsNoRat active clause groups reached f)
rat_or_not active end none [] [] reached = inr (NoConflict, refl)
rat_or_not active end none [] (group ∷ groups) reached = inr (NoPivot, refl)
rat_or_not active end none (pivot ∷ rest) groups reached = elim (all_or_not active pivot reached groups) [
  | inr (f, unsettled) ↦ inr (f, inl unsettled)
  | inl settled ↦ elim (groups_or_not active pivot groups end none) [
    | inl has_all ↦ inl (settled, has_all)
    | inr lacks ↦ inr (missing groups, inr (settled, lacks, refl))
  ]
]

-- a clause is justified or not, for one reason
unjustified_once : (active : ℕ → Option (List ℤ)) (clause hints : List ℤ) (f g : StepFault) → IsUnjustified active clause hints f → IsUnjustified active clause hints g → f ≡ g
unjustified_once active clause hints f g (never, inl (h, apart)) (too, inl (k, off)) = fails_once active (first_hints hints) (negated clause) f g h k
unjustified_once active clause hints f g (never, inl (h, apart)) (too, inr (reached, reaches, k)) =
    absurd (apart (fails_once active (first_hints hints) (negated clause) f NoConflict h (reach_fails active (first_hints hints) (negated clause) reached reaches)))
unjustified_once active clause hints f g (never, inr (reached, reaches, h)) (too, inl (k, apart)) =
    absurd (apart (fails_once active (first_hints hints) (negated clause) g NoConflict k (reach_fails active (first_hints hints) (negated clause) reached reaches)))
unjustified_once active clause hints f g (never, inr (reached, reaches, h)) (too, inr (other, reach, k)) =
    no_rat_once active clause (groups_of hints) reached f g h
    (subst (λ (r : List ℤ). IsNoRat active clause (groups_of hints) r g) (reach_once active (first_hints hints) (negated clause) other reached reach reaches) k)

never_justified_and_not : (active : ℕ → Option (List ℤ)) (clause hints : List ℤ) (f : StepFault) → IsJustified active clause hints → IsUnjustified active clause hints f → ⊥
never_justified_and_not active clause hints f (inl (inl taut)) (never, k) = true≢false (sym taut ∙ never)
never_justified_and_not active clause hints f (inl (inr refutes)) (never, inl (k, apart)) = never_refutes_and_fails active (first_hints hints) (negated clause) f refutes k
never_justified_and_not active clause hints f (inl (inr refutes)) (never, inr (reached, reaches, k)) =
    never_refutes_and_fails active (first_hints hints) (negated clause) NoConflict refutes (reach_fails active (first_hints hints) (negated clause) reached reaches)
never_justified_and_not active clause hints f (inr (reached, reaches, rat)) (never, inl (k, apart)) =
    apart (fails_once active (first_hints hints) (negated clause) f NoConflict k (reach_fails active (first_hints hints) (negated clause) reached reaches))
never_justified_and_not active clause hints f (inr (reached, reaches, rat)) (never, inr (other, reach, k)) =
    never_rat_and_not active clause (groups_of hints) reached f rat
    (subst (λ (r : List ℤ). IsNoRat active clause (groups_of hints) r f) (reach_once active (first_hints hints) (negated clause) other reached reach reaches) k)

which_fault : (f : StepFault) → (f ≡ NoConflict) ⊎ (f ≢ NoConflict)
which_fault NoConflict = inl refl
which_fault UnknownHint = inr (λ e. absurd cc)
which_fault NotUnit = inr (λ e. absurd cc)
which_fault IdInUse = inr (λ e. absurd cc)
which_fault NoEmptyClause = inr (λ e. absurd cc)
which_fault NotOpposed = inr (λ e. absurd cc)
which_fault NoPivot = inr (λ e. absurd cc)
which_fault GroupMissing = inr (λ e. absurd cc)

justified_or_not : (active : ℕ → Option (List ℤ)) (end : ℕ) → IsBelow end active → (clause hints : List ℤ) → IsJustified active clause hints ⊎ ((f : StepFault) × IsUnjustified active clause hints f)
justified_or_not active end none clause hints = elim (cases_Bool (is_tautology clause)) [
  | inl taut ↦ inl (inl (inl taut))
  | inr never ↦ elim (refutes_or_fails active (first_hints hints) (negated clause)) [
    | inl refutes ↦ inl (inl (inr refutes))
    | inr (f, fails) ↦ elim (which_fault f) [
      | inr apart ↦ inr (f, (never, inl (fails, apart)))
      | inl same ↦ (
          let end_of = fail_reaches active (first_hints hints) (negated clause) f same fails in
          elim (rat_or_not active end none clause (groups_of hints) end_of.0) [
            | inl rat ↦ inl (inr (end_of.0, end_of.1, rat))
            | inr (g, no_rat) ↦ inr (g, (never, inr (end_of.0, end_of.1, no_rat)))
          ])
    ]
  ]
]

-- a step is wrong in one way
some_clause : (o : Option (List ℤ)) → IsSome o → o ≡ None → ⊥
some_clause None h e = false≢true h
some_clause (Some c) h e = none-some c (sym e)

wrong_once : (active : ℕ → Option (List ℤ)) (step : Step) (f g : StepFault) → IsWrong active step f → IsWrong active step g → f ≡ g
wrong_once active (Addition id literals hints) f g (inl (used, e)) (inl (same, d)) = e ∙ sym d
wrong_once active (Addition id literals hints) f g (inl (used, e)) (inr (free, k)) = absurd (some_clause (active id) used free)
wrong_once active (Addition id literals hints) f g (inr (free, h)) (inl (used, d)) = absurd (some_clause (active id) used free)
wrong_once active (Addition id literals hints) f g (inr (free, h)) (inr (same, k)) = unjustified_once active literals hints f g h k
wrong_once active (Deletion first ids) f g h k = absurd h

never_right_and_wrong : (active : ℕ → Option (List ℤ)) (step : Step) (f : StepFault) → IsRight active step → IsWrong active step f → ⊥
never_right_and_wrong active (Addition id literals hints) f (free, h) (inl (used, e)) = some_clause (active id) used free
never_right_and_wrong active (Addition id literals hints) f (free, h) (inr (same, k)) = never_justified_and_not active literals hints f h k
never_right_and_wrong active (Deletion first ids) f h k = k

addition_either : (active : ℕ → Option (List ℤ)) (end : ℕ) → IsBelow end active → (id : ℕ) (literals hints : List ℤ) (o : Option (List ℤ)) → active id ≡ o →
    IsRight active (Addition id literals hints) ⊎ ((f : StepFault) × IsWrong active (Addition id literals hints) f)
addition_either active end none id literals hints (Some c) e = inr (IdInUse, inl (subst (λ (o : Option (List ℤ)). IsSome o) (sym e) refl, refl))
addition_either active end none id literals hints None e = elim (justified_or_not active end none literals hints) [
  | inl justified ↦ inl (e, justified)
  | inr (f, unjustified) ↦ inr (f, inr (e, unjustified))
]

right_or_wrong : (active : ℕ → Option (List ℤ)) (end : ℕ) → IsBelow end active → (step : Step) → IsRight active step ⊎ ((f : StepFault) × IsWrong active step f)
right_or_wrong active end none (Addition id literals hints) = addition_either active end none id literals hints (active id) refl
right_or_wrong active end none (Deletion first ids) = inl tt

-- where the active clauses end
abbrev end_after : ℕ → Step → ℕ
end_after end (Addition id literals hints) = end + suc id
end_after end (Deletion first ids) = end

below_after : (active : ℕ → Option (List ℤ)) (end : ℕ) (step : Step) → IsBelow end active → IsBelow (end_after end step) (after active step)
below_after active end (Addition id literals hints) none other past =
    cond-false (eqb id other) (Some literals) (active other) (ne_eqb id other (λ e. omega (arith, e, past))) ∙ none other (omega (arith, past))
below_after active end (Deletion first ids) none other past = hidden_none (list_any (λ id. eqb id other) ids) (active other) (none other past)

below_start : (clauses : List (List ℤ)) → IsBelow (suc (length clauses)) (numbered clauses)
below_start clauses zero past = refl
below_start clauses (suc k) past = slice_get_past clauses k (omega (arith, past))

-- all steps
refused_once : (steps : List Step) (active : ℕ → Option (List ℤ)) (first : ℕ) (f g : StepFault) (p q : ℕ) → Refuses active first steps f p → Refuses active first steps g q → (f ≡ g) × (p ≡ q)
refused_once [] active first f g p q h k = (h.0 ∙ sym k.0, h.1 ∙ sym k.1)
refused_once (step ∷ steps) active first f g p q (inl (wrong, e)) (inl (same, d)) = (wrong_once active step f g wrong same, e ∙ sym d)
refused_once (step ∷ steps) active first f g p q (inl (wrong, e)) (inr (right, on, k)) = absurd (never_right_and_wrong active step f right wrong)
refused_once (step ∷ steps) active first f g p q (inr (right, on, h)) (inl (wrong, d)) = absurd (never_right_and_wrong active step g right wrong)
refused_once (step ∷ steps) active first f g p q (inr (right, on, h)) (inr (same, too, k)) = refused_once steps (after active step) (first + 1) f g p q h k

never_both_from : (steps : List Step) (active : ℕ → Option (List ℤ)) (first : ℕ) (f : StepFault) (p : ℕ) → Accepts active steps → Refuses active first steps f p → ⊥
never_both_from [] active first f p h k = h
never_both_from (step ∷ steps) active first f p (right, h) (inl (wrong, e)) = never_right_and_wrong active step f right wrong
never_both_from (step ∷ steps) active first f p (right, inl end) (inr (same, on, k)) = true≢false (sym end ∙ on)
never_both_from (step ∷ steps) active first f p (right, inr later) (inr (same, on, k)) = never_both_from steps (after active step) (first + 1) f p later k

always_from : (steps : List Step) (active : ℕ → Option (List ℤ)) (end first : ℕ) → IsBelow end active → Accepts active steps ⊎ ((f : StepFault) × (p : ℕ) × Refuses active first steps f p)
always_from [] active end first none = inr (NoEmptyClause, first, (refl, refl))
always_from (step ∷ steps) active end first none =
    elim (right_or_wrong active end none step) [
      | inr (f, wrong) ↦ inr (f, first, inl (wrong, refl))
      | inl right ↦ elim (cases_Bool (ends step)) [
        | inl last ↦ inl (right, inl last)
        | inr on ↦ elim (always_from steps (after active step) (end_after end step) (first + 1) (below_after active end step none)) [
          | inl later ↦ inl (right, inr later)
          | inr (f, p, k) ↦ inr (f, p, inr (right, on, k))
        ]
      ]
    ]

pub one_refused : (clauses : List (List ℤ)) (cube : List ℤ) (steps : List Step) (f g : StepFault) (p q : ℕ) → IsRefused clauses cube steps f p → IsRefused clauses cube steps g q → (f ≡ g) × (p ≡ q)
one_refused clauses cube steps f g p q h k = refused_once steps (at_start clauses cube) 1 f g p q h k

pub never_both : (clauses : List (List ℤ)) (cube : List ℤ) (steps : List Step) (fault : StepFault) (place : ℕ) → IsAccepted clauses cube steps → IsRefused clauses cube steps fault place → ⊥
never_both clauses cube steps fault place h k = never_both_from steps (at_start clauses cube) 1 fault place h k

pub always_one : (clauses : List (List ℤ)) (cube : List ℤ) (steps : List Step) → IsAccepted clauses cube steps ⊎ ((fault : StepFault) × (place : ℕ) × IsRefused clauses cube steps fault place)
always_one clauses cube steps =
    let units = map (λ (literal : ℤ). literal ∷ []) cube in
    always_from steps (at_start clauses cube) (suc (length (clauses ++ units))) 1 (below_start (clauses ++ units))
