use Rattle.std.proofs.Common.{ℕ, ◌<◌}
use Rattle.trace_semantics.specs.Trace.{operation_count}
use Rattle.verdict_notes.specs.OpenCubes.{Says}
use Rattle.verdict_notes.proofs.open_orders.later_of.Given as goal

abbrev pub invariant-loop-j : goal.invariant-loop-j
invariant-loop-j l = (k : ℕ) → k < l.j → Says (operation_count l.layout) l.literal l.i k → ⊥
