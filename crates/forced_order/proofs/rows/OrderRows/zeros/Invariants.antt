use Rattle.std.proofs.Common.{◌≡◌, ◌<◌, ℕ, length}
use Rattle.std.specs.Prelude.{Some}
use Rattle.std.specs.List.{slice_get}
use Rattle.forced_order.specs.declared.numbered.OperationNumber.{OperationNumber}
use Rattle.forced_order.specs.Rows.{HasRow, last_before}
use Rattle.forced_order.proofs.rows.OrderRows.zeros.Given as goal

abbrev pub invariant-loop-k : goal.invariant-loop-k
invariant-loop-k l = record {
  zero : (n : OperationNumber) (q : ℕ) → last_before l.processes.items n q ≡ 0;
  rows : (j k count : ℕ) → j < l.k → slice_get l.counts j ≡ Some count → k < count → HasRow l.processes.items (record { process = j; place = k });
  long : length l.processes.items ≡ l.k;
}
