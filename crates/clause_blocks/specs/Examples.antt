-- Small traces and their formulas, as examples.
use Rattle.std.specs.Prelude.{ℕ, ℤ, pos, neg_ℤ, List, [], ◌∷◌, Some, None, codes}
use Rattle.dimacs.specs.Formula.{FormulaValue}
use Rattle.trace_semantics.specs.declared.operation.Op.{Op}
use Rattle.trace_semantics.specs.declared.operation.Op.TheVariants.{Read, Write, Update}
use Rattle.trace_semantics.specs.declared.operation.OpName.{OpName}
use Rattle.trace_semantics.specs.declared.operation.Origin.TheVariants.{Any, Initial}
use Rattle.trace_semantics.specs.declared.trace.Process.{Process}
use Rattle.trace_semantics.specs.Trace.{TraceValue}

-- the literal that says that a variable is false
abbrev pub negated : ℕ → ℤ
negated v = neg_ℤ (pos v)

-- a process of one operation
abbrev pub process_of : List ℕ → Op → Process
process_of name op = record { name = name; operations = op ∷ [] }

-- Order variables: 1 is 0 before 1, 2 is 0 before 2, 3 is 0 before 3, 4 is 1 before 2, 5 is 1 before 3, 6 is 2 before 3.
-- Choice variables: 7 is that 1 reads the initial value, 8 that 3 does.
abbrev pub store_buffering_formula : FormulaValue
store_buffering_formula = record {
  variables = 8;
  clauses = (pos 1 ∷ []) ∷ (pos 6 ∷ []) ∷ (negated 1 ∷ negated 4 ∷ pos 2 ∷ []) ∷ (pos 1 ∷ pos 4 ∷ negated 2 ∷ []) ∷
      (negated 1 ∷ negated 5 ∷ pos 3 ∷ []) ∷ (pos 1 ∷ pos 5 ∷ negated 3 ∷ []) ∷
      (negated 2 ∷ negated 6 ∷ pos 3 ∷ []) ∷ (pos 2 ∷ pos 6 ∷ negated 3 ∷ []) ∷
      (negated 4 ∷ negated 6 ∷ pos 5 ∷ []) ∷ (pos 4 ∷ pos 6 ∷ negated 5 ∷ []) ∷ (pos 7 ∷ []) ∷
      (negated 7 ∷ pos 4 ∷ []) ∷ (pos 8 ∷ []) ∷ (negated 8 ∷ negated 3 ∷ []) ∷ [];
}

-- one update undoes the other, and the final value is the initial one
abbrev pub two_updates : TraceValue
two_updates = record {
  processes = process_of (codes "P") (Update (codes "x") 0 1 Any None) ∷ process_of (codes "Q") (Update (codes "x") 1 0 Any None) ∷ [];
  initial = (codes "x", 0) ∷ [];
  final_values = (codes "x", 0) ∷ [];
  before = [];
}

abbrev pub two_updates_formula : FormulaValue
two_updates_formula = record {
  variables = 5;
  clauses = (pos 2 ∷ pos 3 ∷ []) ∷ (negated 2 ∷ pos 1 ∷ []) ∷ (negated 3 ∷ negated 1 ∷ []) ∷ (pos 4 ∷ []) ∷
      (negated 4 ∷ pos 1 ∷ []) ∷ (pos 5 ∷ []) ∷ (negated 5 ∷ pos 1 ∷ []) ∷ [];
}

abbrev pub name_of : List ℕ → OpName
name_of process = record { process = process; place = 1 }

-- the read has the initial value, and yet the write stands before it
abbrev pub late_read : TraceValue
late_read = record {
  processes = process_of (codes "P") (Write (codes "x") 0 None) ∷ process_of (codes "Q") (Read (codes "x") 0 Initial None) ∷ [];
  initial = (codes "x", 0) ∷ [];
  final_values = [];
  before = (name_of (codes "P"), name_of (codes "Q")) ∷ [];
}

abbrev pub late_read_formula : FormulaValue
late_read_formula = record { variables = 2; clauses = (pos 2 ∷ []) ∷ (negated 2 ∷ negated 1 ∷ []) ∷ (pos 1 ∷ []) ∷ [] }

-- a write from time 1 to this time, and a read of the initial value from time 3 on
abbrev pub write_and_read : ℕ → TraceValue
write_and_read end = record {
  processes = process_of (codes "P") (Write (codes "x") 0 (Some (record { start = 1; end = end }))) ∷ process_of (codes "Q") (Read (codes "x") 0 Initial (Some (record { start = 3; end = 4 }))) ∷ [];
  initial = (codes "x", 0) ∷ [];
  final_values = [];
  before = [];
}

-- times put nothing before the read
abbrev pub early_read_formula : FormulaValue
early_read_formula = record { variables = 2; clauses = (pos 2 ∷ []) ∷ (negated 2 ∷ negated 1 ∷ []) ∷ [] }

-- a value that no operation writes, and a final value that none leaves
abbrev pub lost_values : TraceValue
lost_values = record {
  processes = process_of (codes "P") (Read (codes "x") 1 Any None) ∷ [];
  initial = [];
  final_values = (codes "y", 5) ∷ [];
  before = [];
}

abbrev pub lost_values_formula : FormulaValue
lost_values_formula = record { variables = 2; clauses = (pos 1 ∷ []) ∷ (negated 1 ∷ []) ∷ (pos 2 ∷ []) ∷ (negated 2 ∷ []) ∷ [] }
