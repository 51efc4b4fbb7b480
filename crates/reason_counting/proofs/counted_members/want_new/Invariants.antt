use Rattle.std.proofs.Common.{◌<◌, ℕ, get_or}
use Rattle.reason_counting.specs.declared.counted_members.CountedMember.{CountedMember}
use Rattle.reason_counting.specs.CountedMembers.{AreTwo}
use Rattle.reason_counting.proofs.counted_members.want_new.Given as goal

abbrev pub invariant-loop-j : goal.invariant-loop-j
invariant-loop-j l = (i : ℕ) (d : CountedMember) → i < l.j → AreTwo (get_or l.members i d) (get_or l.members l.k d)
