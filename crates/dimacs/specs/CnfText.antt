-- The text of a formula (DIMACS).
use Rattle.std.specs.Prelude.{ℕ, ℤ, List, ◌++◌, length, codes, decimal}
use Rattle.std.specs.Fmt.{signed_decimal}
use Rattle.std.specs.List.{flat_map}
use Rattle.dimacs.specs.Formula.{FormulaValue}

-- the number of variables and the number of clauses
abbrev pub header_line : ℕ → ℕ → List ℕ
header_line variables clauses = codes "p cnf " ++ (decimal variables ++ (codes " " ++ (decimal clauses ++ codes "\n")))

-- a variable and a space
abbrev pub variable_text : ℕ → List ℕ
variable_text variable = decimal variable ++ codes " "

-- a literal and a space
abbrev pub literal_text : ℤ → List ℕ
literal_text z = signed_decimal z ++ codes " "

-- the literals, and 0 at the end
abbrev pub clause_line : List ℤ → List ℕ
clause_line literals = flat_map literal_text literals ++ codes "0\n"

-- the header, and a line for each clause
abbrev pub cnf_text : FormulaValue → List ℕ
cnf_text f = header_line f.variables (length f.clauses) ++ flat_map clause_line f.clauses
