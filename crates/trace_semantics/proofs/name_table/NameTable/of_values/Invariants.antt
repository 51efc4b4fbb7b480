use Rattle.std.proofs.Common.{◌≡◌, ℕ, List, drop}
use Rattle.trace_semantics.specs.NameNumbers.{number_of}
use Rattle.trace_semantics.specs.Trace.{value_of}
use Rattle.trace_semantics.proofs.name_table.NameTable.of_values.Given as goal

abbrev pub invariant-loop-k : goal.invariant-loop-k
invariant-loop-k l = (location : List ℕ) → number_of l.table location ≡ value_of (drop l.k l.values) location
