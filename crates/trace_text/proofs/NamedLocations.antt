-- The locations that parts of a trace name.
use Rattle.std.proofs.Common.{ℕ, List, [], ◌∷◌, map}
use Rattle.trace_semantics.specs.declared.operation.Op.{Op}
use Rattle.trace_semantics.specs.declared.trace.Process.{Process}
use Rattle.trace_semantics.specs.Operation.{location_of}

abbrev pub entry_names : List ℕ × ℕ → List (List ℕ)
entry_names entry = entry.0 ∷ []

abbrev pub operation_names : Op → List (List ℕ)
operation_names op = location_of op ∷ []

abbrev pub process_names : Process → List (List ℕ)
process_names p = map location_of p.operations
