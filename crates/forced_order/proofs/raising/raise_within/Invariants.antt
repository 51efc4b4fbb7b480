use Rattle.std.proofs.Common.{◌<◌, ℕ}
use Rattle.forced_order.specs.Closed.{IsClosedAfter}
use Rattle.forced_order.specs.Raised.{IsPass}
use Rattle.forced_order.proofs.raising.raise_within.Given as goal

abbrev pub invariant-loop-process : goal.invariant-loop-process
invariant-loop-process l = IsPass l.trace l.rose l.fn.rows l.rows (λ order. (q : ℕ) → q < l.process → IsClosedAfter l.trace.processes order q l.n)
