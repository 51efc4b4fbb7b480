-- The variables of a trace's formula are the numbers from 1 to their count.
use Rattle.std.specs.Prelude.{◌≤◌, ℕ, pos, neg_ℤ, IsTrue}
use Rattle.dimacs.specs.Literal.{is_literal_up_to}
use Rattle.trace_semantics.specs.Trace.{TraceValue}
use Rattle.var_layout.specs.FinalVariables.{variable_count}

-- it is one of the trace's variables
abbrev pub IsVariable : TraceValue → ℕ → Type 0
IsVariable t v = (1 ≤ v) × (v ≤ variable_count t)

-- both the variable and its negation are literals of the trace's variables
abbrev pub HasLiterals : TraceValue → ℕ → Type 0
HasLiterals t v = IsTrue (is_literal_up_to (variable_count t) (pos v)) × IsTrue (is_literal_up_to (variable_count t) (neg_ℤ (pos v)))
