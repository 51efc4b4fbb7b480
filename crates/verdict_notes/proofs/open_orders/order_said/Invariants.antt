use Rattle.std.proofs.Common.{ℕ, ◌<◌}
use Rattle.trace_semantics.specs.Trace.{operation_count}
use Rattle.verdict_notes.specs.OpenCubes.{Says}
use Rattle.verdict_notes.proofs.open_orders.order_said.Given as goal

abbrev pub invariant-loop-i : goal.invariant-loop-i
invariant-loop-i l = (i j : ℕ) → i < l.i → Says (operation_count l.layout) l.literal i j → ⊥
