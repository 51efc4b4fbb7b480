-- Derivations that are accepted, and the refusals of the others.
use Rattle.std.specs.Prelude.{◌≡◌, ⊤, ◌⊎◌, ℕ, ◌+◌, ℤ, Bool, true, false, List, [], ◌∷◌, length, Option, None, IsSome, ◌==◌}
use Rattle.lrat_check.specs.Active.{at_start, after}
use Rattle.lrat_check.specs.Justified.{IsJustified, IsUnjustified}
use Rattle.lrat_check.specs.declared.derivation.Step.{Step}
use Rattle.lrat_check.specs.declared.derivation.Step.TheVariants.{Addition, Deletion}
use Rattle.lrat_check.specs.declared.refusal.StepFault.{StepFault}
use Rattle.lrat_check.specs.declared.refusal.StepFault.TheVariants.{IdInUse, NoEmptyClause}

-- a step that may be taken: an addition under an id that is free, of a clause that is justified, or a deletion
abbrev pub IsRight : (ℕ → Option (List ℤ)) → Step → Type 0
IsRight active (Addition id literals hints) = (active id ≡ None) × IsJustified active literals hints
IsRight active (Deletion first ids) = ⊤

-- a step that may not be taken, and why
abbrev pub IsWrong : (ℕ → Option (List ℤ)) → Step → StepFault → Type 0
IsWrong active (Addition id literals hints) fault =
    (IsSome (active id) × (fault ≡ IdInUse)) ⊎ ((active id ≡ None) × IsUnjustified active literals hints fault)
IsWrong active (Deletion first ids) fault = ⊥

-- whether the step adds the empty clause
abbrev pub ends : Step → Bool
ends (Addition id literals hints) = length literals == 0
ends (Deletion first ids) = false

-- each step up to the one that adds the empty clause may be taken
abbrev pub Accepts : (ℕ → Option (List ℤ)) → List Step → Type 0
Accepts active [] = ⊥
Accepts active (step ∷ steps) = IsRight active step × ((ends step ≡ true) ⊎ Accepts (after active step) steps)

-- The step at this place, where the first is counted so, is the first that may not be taken, and none before it adds the
-- empty clause; or no step adds it.
abbrev pub Refuses : (ℕ → Option (List ℤ)) → ℕ → List Step → StepFault → ℕ → Type 0
Refuses active first [] fault place = (fault ≡ NoEmptyClause) × (place ≡ first)
Refuses active first (step ∷ steps) fault place =
    (IsWrong active step fault × (place ≡ first)) ⊎ (IsRight active step × (ends step ≡ false) × Refuses (after active step) (first + 1) steps fault place)

-- the derivation shows that no model of these clauses makes all literals of the cube true
abbrev pub IsAccepted : List (List ℤ) → List ℤ → List Step → Type 0
IsAccepted clauses cube steps = Accepts (at_start clauses cube) steps

-- the derivation is refused at this step, counted from 1
abbrev pub IsRefused : List (List ℤ) → List ℤ → List Step → StepFault → ℕ → Type 0
IsRefused clauses cube steps fault place = Refuses (at_start clauses cube) 1 steps fault place
