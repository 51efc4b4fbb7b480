-- What literals can be made of.
use Rattle.std.specs.Prelude.{◌≢◌, ⊤, ℕ, ◌<◌, ◌≤◌}
use Rattle.dimacs.specs.Literal.{most_variable}
use Rattle.trace_semantics.specs.Trace.{TraceValue, operation_count}
use Rattle.var_layout.specs.declared.candidate.Candidate.{Candidate}
use Rattle.var_layout.specs.declared.candidate.Candidate.TheVariants.{InitialValue, Writer}

-- a formula can have the variable of this number
abbrev pub FitsFormula : ℕ → Type 0
FitsFormula v = (1 ≤ v) × (v ≤ most_variable)

-- both are operations, and they are two
abbrev pub AreTwo : TraceValue → ℕ → ℕ → Type 0
AreTwo t i j = (i < operation_count t) × (j < operation_count t) × (i ≢ j)

-- the initial value, or an operation other than this one
abbrev pub IsSource : TraceValue → ℕ → Candidate → Type 0
IsSource t r InitialValue = ⊤
IsSource t r (Writer w) = AreTwo t w r
