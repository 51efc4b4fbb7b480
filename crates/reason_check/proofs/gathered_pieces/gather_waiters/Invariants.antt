use Rattle.std.proofs.Common.{take}
use Rattle.reason_check.specs.Members.{AreWaiters}
use Rattle.reason_check.proofs.gathered_pieces.gather_waiters.Given as goal

abbrev pub invariant-loop-part : goal.invariant-loop-part
invariant-loop-part l = AreWaiters (take l.part-index l.parts) l.waiters.items
