use Rattle.std.proofs.Common.{◌≡◌, ◌<◌, ℕ}
use Rattle.std.specs.Prelude.{Some}
use Rattle.std.specs.List.{slice_get}
use Rattle.forced_order.specs.declared.numbered.OperationNumber.{OperationNumber}
use Rattle.forced_order.specs.Closed.{IsClosedStep}
use Rattle.forced_order.specs.Raised.{IsPass}
use Rattle.forced_order.proofs.raising.raise_pairs.Given as goal

abbrev pub invariant-loop-k : goal.invariant-loop-k
invariant-loop-k l = IsPass l.trace l.rose l.fn.rows l.rows (λ order. (j : ℕ) (pair : OperationNumber × OperationNumber) → j < l.k → slice_get l.pairs j ≡ Some pair → IsClosedStep order pair.0 pair.1)
