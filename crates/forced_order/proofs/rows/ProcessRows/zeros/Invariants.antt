use Rattle.std.proofs.Common.{◌≡◌, ◌<◌, ℕ, [], length, slice_index_or}
use Rattle.forced_order.proofs.rows.ProcessRows.zeros.Given as goal

abbrev pub invariant-loop-place : goal.invariant-loop-place
invariant-loop-place l = record {
  zero : (k q : ℕ) → slice_index_or (slice_index_or l.rows.items k []) q 0 ≡ 0;
  wide : (k : ℕ) → k < l.place → length (slice_index_or l.rows.items k []) ≡ 64;
  long : length l.rows.items ≡ l.place;
}
