-- How numbered things are printed.
use Rattle.std.specs.Prelude.{ℕ, List, ◌++◌, Option, Some, None, codes, decimal}

-- the number and the name, and then the place, where there is one
abbrev pub printed_at : ℕ → List ℕ → Option ℕ → List ℕ
printed_at number name None = decimal number ++ (codes " " ++ name)
printed_at number name (Some place) = decimal number ++ (codes " " ++ (name ++ (codes " at " ++ decimal place)))
