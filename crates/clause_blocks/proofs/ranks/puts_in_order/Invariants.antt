use Rattle.std.proofs.Common.{◌<◌, ℕ, slice_index}
use Rattle.dimacs.specs.Assignment.{value_of}
use Rattle.trace_semantics.specs.Trace.{operation_count}
use Rattle.clause_blocks.specs.Ranks.{IsRankedFrom}
use Rattle.clause_blocks.proofs.ranks.puts_in_order.Given as goal

abbrev pub invariant-loop-i : goal.invariant-loop-i
invariant-loop-i l = (k : ℕ) → k < l.i → IsRankedFrom (value_of l.assignment) (operation_count l.layout) (slice_index l.ranks) k
