-- Literals and clauses (DIMACS).
use Rattle.std.specs.Prelude.{ℕ, ℤ, nat_abs, Bool, ◌&&◌, nat_lt, nat_le, List}
use Rattle.std.specs.List.{list_all}

-- the largest number of a variable
abbrev pub most_variable : ℕ
most_variable = 4194304

-- A literal of the variables 1 to this: the number of a variable, or the negative of one. It is never 0.
abbrev pub is_literal_up_to : ℕ → ℤ → Bool
is_literal_up_to most z = nat_lt 0 (nat_abs z) && nat_le (nat_abs z) most

abbrev pub is_literal : ℤ → Bool
is_literal z = is_literal_up_to most_variable z

-- a list of such literals: repeated ones, a literal beside its negation, and no literal at all are allowed
abbrev pub is_clause_up_to : ℕ → List ℤ → Bool
is_clause_up_to most literals = list_all (is_literal_up_to most) literals

abbrev pub is_clause : List ℤ → Bool
is_clause literals = is_clause_up_to most_variable literals
