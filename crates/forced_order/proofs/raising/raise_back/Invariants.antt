use Rattle.forced_order.specs.Raised.{IsPass}
use Rattle.forced_order.proofs.raising.raise_back.Given as goal

abbrev pub invariant-loop-k : goal.invariant-loop-k
invariant-loop-k l = IsPass l.trace l.rose l.fn.rows l.rows (λ order. Unit {0})
