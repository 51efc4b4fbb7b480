use Rattle.std.proofs.Common.{◌≡◌, ◌<◌, ℕ, slice_index}
use Rattle.std.specs.Prelude.{nat_lt}
use Rattle.dimacs.specs.Assignment.{value_of, makes_true}
use Rattle.clause_blocks.specs.Blocks.{stands_before}
use Rattle.clause_blocks.proofs.ranks.agrees_from.Given as goal

abbrev pub invariant-loop-j : goal.invariant-loop-j
invariant-loop-j l = (k : ℕ) → l.i < k → k < l.j → makes_true (value_of l.assignment) (stands_before l.layout l.i k) ≡ nat_lt (slice_index l.ranks l.i) (slice_index l.ranks k)
