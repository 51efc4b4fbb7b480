-- Store buffering, as an example.
use Rattle.std.specs.Prelude.{ℕ, [], ◌∷◌, None, codes}
use Rattle.trace_semantics.specs.declared.operation.Op.TheVariants.{Read, Write}
use Rattle.trace_semantics.specs.declared.operation.Origin.TheVariants.{Any}
use Rattle.trace_semantics.specs.declared.trace.Process.{Process}
use Rattle.trace_semantics.specs.Trace.{TraceValue}
use Rattle.var_layout.specs.declared.candidate.Candidate.TheVariants.{InitialValue}
use Rattle.var_layout.specs.declared.candidate.ReadsFromChoice.{ReadsFromChoice}

abbrev pub first_process : Process
first_process = record { name = codes "P"; operations = Write (codes "x") 1 None ∷ Read (codes "y") 0 Any None ∷ [] }

abbrev pub second_process : Process
second_process = record { name = codes "Q"; operations = Write (codes "y") 1 None ∷ Read (codes "x") 0 Any None ∷ [] }

-- each of two processes writes one location and then reads the initial value of the other's
abbrev pub store_buffering : TraceValue
store_buffering = record {
  processes = first_process ∷ second_process ∷ [];
  initial = (codes "x", 0) ∷ (codes "y", 0) ∷ [];
  final_values = [];
  before = [];
}

-- an operation that reads the initial value
abbrev pub initial_choice : ℕ → ReadsFromChoice
initial_choice v = record { candidate = InitialValue; variable = v }
