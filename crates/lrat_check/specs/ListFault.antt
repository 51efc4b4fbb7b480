-- What is wrong with a list of numbers at the beginning of some words.
use Rattle.std.specs.Prelude.{◌≡◌, ℕ, ℤ, List, Option, Some}
use Rattle.lrat_check.specs.LratFaults.{list_fault}
use Rattle.lrat_check.specs.declared.lrat_fault.LratCause.{LratCause}

-- this is wrong with the list, whatever is after it
abbrev pub HasListFault : (Option ℤ → Option LratCause) → List (List ℕ) → LratCause → Type 0
HasListFault fault words cause = (next : List (List ℕ) → Option LratCause) → list_fault fault next words ≡ Some cause
