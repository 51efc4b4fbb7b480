-- Formulas in conjunctive normal form (DIMACS).
use Rattle.std.specs.Prelude.{ℕ, ℤ, Bool, List}
use Rattle.std.specs.List.{list_all}
use Rattle.dimacs.specs.Literal.{is_clause_up_to}

-- how many variables there are, and the clauses in their order
pub record FormulaValue : Type 0 where
  pub variables : ℕ
  pub clauses : List (List ℤ)

-- each clause is over the formula's variables
abbrev pub is_formula : FormulaValue → Bool
is_formula f = list_all (is_clause_up_to f.variables) f.clauses
