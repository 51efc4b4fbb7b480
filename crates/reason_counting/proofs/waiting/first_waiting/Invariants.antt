use Rattle.std.proofs.Common.{◌≡◌, length, take}
use Rattle.reason_counting.specs.WaitingSet.{AreFirst, HoldMembers, operations_of}
use Rattle.reason_counting.proofs.waiting.first_waiting.Given as goal

abbrev pub invariant-loop-k : goal.invariant-loop-k
invariant-loop-k l =
    HoldMembers (operations_of (take l.k l.waiters)) l.first.items
    × AreFirst (operations_of (take l.k l.waiters)) l.first.items
    × (length l.first.items ≡ l.processes)
