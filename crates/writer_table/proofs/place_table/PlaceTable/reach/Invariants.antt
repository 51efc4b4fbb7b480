use Rattle.std.proofs.Common.{◌≡◌, ◌+◌, ◌-◌, ℕ, [], length, slice_index_or}
use Rattle.writer_table.proofs.place_table.PlaceTable.reach.Given as goal

abbrev pub invariant-loop-alloc : goal.invariant-loop-alloc
invariant-loop-alloc l = (c : ℕ) → slice_index_or l.self-inside.rows.items c [] ≡ slice_index_or l.fn.self c []

abbrev pub decreases-loop-alloc : goal.decreases-loop-alloc
decreases-loop-alloc l = l.class + 1 - length l.self-inside.rows.items
