use Rattle.std.proofs.Common.{◌≡◌}
use Rattle.std.specs.Prelude.{Some}
use Rattle.std.specs.List.{slice_get}
use Rattle.trace_semantics.specs.declared.trace.Process.{Process}
use Rattle.forced_order.specs.Closed.{AreStepsClosed}
use Rattle.forced_order.specs.Raised.{IsPass}
use Rattle.forced_order.proofs.raising.raise_process.Given as goal

abbrev pub invariant-loop-place : goal.invariant-loop-place
invariant-loop-place l = IsPass l.trace l.rose l.fn.rows l.rows (λ order. (p : Process) → slice_get l.trace.processes l.process ≡ Some p → AreStepsClosed order l.process l.place)
