-- What answers of a search keep to.
use Rattle.std.specs.Prelude.{ℕ, ◌≤◌, Bool, true, false, List, length, filter}
use Rattle.lrat_check.specs.declared.derivation.Step.{Step}
use Rattle.lrat_check.specs.declared.derivation.Step.TheVariants.{Addition, Deletion}
use Rattle.proof_log.specs.declared.answer.Answer.{Answer}
use Rattle.proof_log.specs.declared.answer.Answer.TheVariants.{Model, Refuted, Open}

-- it adds a clause
abbrev pub is_addition : Step → Bool
is_addition (Addition id literals hints) = true
is_addition (Deletion first ids) = false

-- the number of steps that add a clause
abbrev pub additions : List Step → ℕ
additions steps = length (filter is_addition steps)

-- no derivation without a conflict, and at most as many additions as conflicts
abbrev pub IsWithin : ℕ → Answer → Type 0
IsWithin budget (Model assignment) = Unit {0}
IsWithin budget (Refuted derivation) = (1 ≤ budget) × (additions derivation ≤ budget)
IsWithin budget Open = Unit {0}
