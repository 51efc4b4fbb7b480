-- What of a derivation is accepted from a step on, so that its pieces can be checked apart.
use Rattle.std.specs.Prelude.{ℕ, ℤ, List, [], ◌∷◌, Option, take, drop}
use Rattle.lrat_check.specs.Active.{after, at_start}
use Rattle.lrat_check.specs.Checked.{Accepts}
use Rattle.lrat_check.specs.declared.derivation.Step.{Step}

-- the active clauses after these steps
abbrev pub after_all : (ℕ → Option (List ℤ)) → List Step → ℕ → Option (List ℤ)
after_all active [] = active
after_all active (step ∷ steps) = after_all (after active step) steps

-- the steps from this place on are accepted after those before it
abbrev pub IsAcceptedFrom : List (List ℤ) → List ℤ → List Step → ℕ → Type 0
IsAcceptedFrom clauses cube steps place = Accepts (after_all (at_start clauses cube) (take place steps)) (drop place steps)
