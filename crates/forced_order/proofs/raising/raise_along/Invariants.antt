use Rattle.forced_order.specs.Raised.{IsPass}
use Rattle.forced_order.proofs.raising.raise_along.Given as goal

abbrev pub invariant-loop-step : goal.invariant-loop-step
invariant-loop-step l = IsPass l.trace l.rose l.fn.rows l.rows (λ order. Unit {0})
