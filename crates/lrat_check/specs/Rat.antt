-- Clauses that may be added though they do not follow (RAT: Järvisalo, Heule, Biere 2012): each active clause that holds the
-- negation of their first literal, the pivot, is a candidate, whose resolvent follows by a group of hints.
use Rattle.std.specs.Prelude.{◌≡◌, ⊤, ◌⊎◌, ℕ, ℤ, neg_ℤ, true, false, List, [], ◌∷◌, ◌++◌, Option, Some, None, if◌then◌else◌}
use Rattle.std.specs.List.{list_any}
use Rattle.std.specs.Ordering.{int_eq}
use Rattle.lrat_check.specs.Hints.{Group, has_group}
use Rattle.lrat_check.specs.Propagation.{has, IsUnit}
use Rattle.lrat_check.specs.Refuted.{Refutes, FailsToRefute, negated}
use Rattle.lrat_check.specs.declared.refusal.StepFault.{StepFault}
use Rattle.lrat_check.specs.declared.refusal.StepFault.TheVariants.{UnknownHint, NoConflict, NotOpposed, NoPivot, GroupMissing}

-- each hint's clause is active and unit, and where their literals are true too, these are
abbrev pub Reaches : (ℕ → Option (List ℤ)) → List ℤ → List ℕ → List ℤ → Type 0
Reaches active trues [] reached = reached ≡ trues
Reaches active trues (hint ∷ hints) reached =
    (clause : List ℤ) × (active hint ≡ Some clause) × ((unit : ℤ) × IsUnit trues clause unit × Reaches active (trues ++ unit ∷ []) hints reached)

-- the clause's literals but the pivot's negation
abbrev pub others : ℤ → List ℤ → List ℤ
others pivot [] = []
others pivot (z ∷ clause) = if int_eq z (neg_ℤ pivot) then others pivot clause else z ∷ others pivot clause

-- The candidate passes: its clause is active and holds the pivot's negation, and one of its other literals is true, or the
-- hints refute that they are all false.
abbrev pub IsSettled : (ℕ → Option (List ℤ)) → ℤ → List ℤ → Group → Type 0
IsSettled active pivot reached group =
    (clause : List ℤ) × (active group.id ≡ Some clause) × (has clause (neg_ℤ pivot) ≡ true)
    × ((list_any (has reached) (others pivot clause) ≡ true) ⊎ Refutes active (reached ++ negated (others pivot clause)) group.hints)

-- the candidate fails, and this is why
abbrev pub IsUnsettled : (ℕ → Option (List ℤ)) → ℤ → List ℤ → Group → StepFault → Type 0
IsUnsettled active pivot reached group fault =
    ((active group.id ≡ None) × (fault ≡ UnknownHint))
    ⊎ ((clause : List ℤ) × (active group.id ≡ Some clause)
    × (((has clause (neg_ℤ pivot) ≡ false) × (fault ≡ NotOpposed))
    ⊎ ((has clause (neg_ℤ pivot) ≡ true) × (list_any (has reached) (others pivot clause) ≡ false) × FailsToRefute active (reached ++ negated (others pivot clause)) group.hints fault)))

-- all candidates pass
abbrev pub AreSettled : (ℕ → Option (List ℤ)) → ℤ → List ℤ → List Group → Type 0
AreSettled active pivot reached [] = ⊤
AreSettled active pivot reached (group ∷ groups) = IsSettled active pivot reached group × AreSettled active pivot reached groups

-- the first that fails does so for this
abbrev pub AreUnsettled : (ℕ → Option (List ℤ)) → ℤ → List ℤ → List Group → StepFault → Type 0
AreUnsettled active pivot reached [] fault = ⊥
AreUnsettled active pivot reached (group ∷ groups) fault =
    IsUnsettled active pivot reached group fault ⊎ (IsSettled active pivot reached group × AreUnsettled active pivot reached groups fault)

-- each active clause that holds the pivot's negation has a group
abbrev pub HasAllGroups : (ℕ → Option (List ℤ)) → ℤ → List Group → Type 0
HasAllGroups active pivot groups = (id : ℕ) (clause : List ℤ) → active id ≡ Some clause → has clause (neg_ℤ pivot) ≡ true → has_group groups id ≡ true

-- one of them has no group
abbrev pub LacksGroup : (ℕ → Option (List ℤ)) → ℤ → List Group → Type 0
LacksGroup active pivot groups = (id : ℕ) × (clause : List ℤ) × (active id ≡ Some clause) × (has clause (neg_ℤ pivot) ≡ true) × (has_group groups id ≡ false)

-- After the first hints, with which these literals are true, the groups show that the clause may be added: it has a pivot, and
-- each candidate has a group and passes.
abbrev pub IsRat : (ℕ → Option (List ℤ)) → List ℤ → List Group → List ℤ → Type 0
IsRat active [] groups reached = ⊥
IsRat active (pivot ∷ rest) groups reached = AreSettled active pivot reached groups × HasAllGroups active pivot groups

-- what is wrong with a clause with a candidate that has no group: without any group it is only that the first hints end
-- without a conflict
abbrev pub missing : List Group → StepFault
missing [] = NoConflict
missing (group ∷ groups) = GroupMissing

-- they do not show it, and this is why
abbrev pub IsNoRat : (ℕ → Option (List ℤ)) → List ℤ → List Group → List ℤ → StepFault → Type 0
IsNoRat active [] [] reached fault = fault ≡ NoConflict
IsNoRat active [] (group ∷ groups) reached fault = fault ≡ NoPivot
IsNoRat active (pivot ∷ rest) groups reached fault =
    AreUnsettled active pivot reached groups fault ⊎ (AreSettled active pivot reached groups × LacksGroup active pivot groups × (fault ≡ missing groups))
