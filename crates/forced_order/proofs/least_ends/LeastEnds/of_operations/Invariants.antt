use Rattle.forced_order.proofs.TimeLemmas.{EndsSoFar}
use Rattle.forced_order.proofs.least_ends.LeastEnds.of_operations.Given as goal

abbrev pub invariant-loop-i : goal.invariant-loop-i
invariant-loop-i l = EndsSoFar l.ops l.ends.items l.i l.least
