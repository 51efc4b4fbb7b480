-- How a search ends.
use Rattle.std.specs.Prelude.{ℕ, ◌≤◌}
use Rattle.proof_log.specs.declared.searching.SearchEnd.{SearchEnd}
use Rattle.proof_log.specs.declared.searching.SearchEnd.TheVariants.{Satisfied, Refuted, Open}

-- no refutation without a conflict that is worked on
abbrev pub TakesConflict : ℕ → SearchEnd → Type 0
TakesConflict budget Satisfied = Unit {0}
TakesConflict budget Refuted = 1 ≤ budget
TakesConflict budget Open = Unit {0}
