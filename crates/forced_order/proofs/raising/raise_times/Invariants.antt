use Rattle.std.proofs.Common.{◌≡◌, ◌<◌, ℕ, length}
use Rattle.std.specs.Prelude.{Some}
use Rattle.std.specs.List.{slice_get}
use Rattle.trace_semantics.specs.declared.trace.Process.{Process}
use Rattle.forced_order.specs.Closed.{AreEndedClosed}
use Rattle.forced_order.specs.Raised.{IsPass}
use Rattle.forced_order.proofs.raising.raise_times.Given as goal

abbrev pub invariant-loop-k : goal.invariant-loop-k
invariant-loop-k l = IsPass l.trace l.rose l.fn.rows l.rows (λ order. (j : ℕ) (p : Process) → j < l.k → slice_get l.trace.processes j ≡ Some p → AreEndedClosed l.trace.processes order j (length p.operations))
