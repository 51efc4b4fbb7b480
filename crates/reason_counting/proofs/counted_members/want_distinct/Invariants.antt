use Rattle.reason_counting.specs.CountedMembers.{AreDistinct}
use Rattle.reason_counting.proofs.counted_members.want_distinct.Given as goal

abbrev pub invariant-loop-k : goal.invariant-loop-k
invariant-loop-k l = AreDistinct l.members l.k
