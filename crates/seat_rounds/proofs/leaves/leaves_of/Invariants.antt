use Rattle.seat_rounds.proofs.LeafLemmas.{AreUpTo}
use Rattle.seat_rounds.proofs.leaves.leaves_of.Given as goal

abbrev pub invariant-loop-leaf : goal.invariant-loop-leaf
invariant-loop-leaf l = AreUpTo l.leaf l.leaves.items
