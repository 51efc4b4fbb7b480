-- The formula of a trace.
use Rattle.std.specs.Prelude.{ℤ, List, [], ◌∷◌, ◌++◌, map}
use Rattle.std.specs.List.{flat_map}
use Rattle.dimacs.specs.Formula.{FormulaValue}
use Rattle.trace_semantics.specs.Trace.{TraceValue, operation_count}
use Rattle.var_layout.specs.FinalVariables.{variable_count}
use Rattle.var_layout.specs.Numbers.{numbers}
use Rattle.clause_blocks.specs.Blocks.{program_order, transitivity_from, read_clauses, final_clauses, before_clauses}

-- The families of clauses in their order, in pieces: program order; transitivity, a piece for each lowest operation of three; what is
-- read; final values; before pairs.
abbrev pub pieces : TraceValue → List (List (List ℤ))
pieces t = program_order t ∷ (map (transitivity_from (operation_count t)) (numbers t) ++ read_clauses t ∷ final_clauses t ∷ before_clauses t ∷ [])

-- the clause list: all pieces, one after the other
abbrev pub clauses_of : TraceValue → List (List ℤ)
clauses_of t = flat_map (λ (piece : List (List ℤ)). piece) (pieces t)

-- the clauses over the trace's variables
abbrev pub formula_of : TraceValue → FormulaValue
formula_of t = record { variables = variable_count t; clauses = clauses_of t }
