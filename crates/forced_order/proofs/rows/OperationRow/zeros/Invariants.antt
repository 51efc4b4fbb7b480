use Rattle.std.proofs.Common.{◌≡◌, ℕ, length, slice_index_or}
use Rattle.forced_order.proofs.rows.OperationRow.zeros.Given as goal

abbrev pub invariant-loop-process : goal.invariant-loop-process
invariant-loop-process l = record {
  zero : (q : ℕ) → slice_index_or l.places.items q 0 ≡ 0;
  long : length l.places.items ≡ l.process;
}
