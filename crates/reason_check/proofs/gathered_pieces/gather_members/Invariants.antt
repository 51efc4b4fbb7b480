use Rattle.std.proofs.Common.{take}
use Rattle.reason_check.specs.Members.{AreMembers}
use Rattle.reason_check.proofs.gathered_pieces.gather_members.Given as goal

abbrev pub invariant-loop-part : goal.invariant-loop-part
invariant-loop-part l = AreMembers (take l.part-index l.parts) l.members.items
