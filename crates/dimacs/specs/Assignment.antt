-- Truth values of variables, and what they make of literals.
use Rattle.std.specs.Prelude.{ℕ, zero, suc, ℤ, pos, negsuc, Bool, false, not, List, slice_index_or}
use Rattle.std.specs.List.{list_all, list_any}

-- the truth value of a variable, where the list has those of 1, 2 and so on: past its end it is false
abbrev pub value_of : List Bool → ℕ → Bool
value_of values zero = false
value_of values (suc k) = slice_index_or values k false

-- a variable is true where its value is, and its negation where its value is false
abbrev pub makes_true : (ℕ → Bool) → ℤ → Bool
makes_true value (pos n) = value n
makes_true value (negsuc n) = not (value (suc n))

-- whether each of the literals is true
abbrev pub makes_all : (ℕ → Bool) → List ℤ → Bool
makes_all value literals = list_all (makes_true value) literals

-- whether one of the literals is true
abbrev pub makes_some : (ℕ → Bool) → List ℤ → Bool
makes_some value literals = list_any (makes_true value) literals
