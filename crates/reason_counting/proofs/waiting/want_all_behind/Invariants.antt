use Rattle.std.proofs.Common.{List, take}
use Rattle.writer_table.specs.declared.operation_place.OperationPlace.{OperationPlace}
use Rattle.reason_counting.specs.WaitingSet.{AreBehind, HoldMembers}
use Rattle.reason_counting.proofs.waiting.want_all_behind.Given as goal

abbrev pub invariant-loop-stretch : goal.invariant-loop-stretch
invariant-loop-stretch l = (members : List OperationPlace) → HoldMembers members l.waiting.first.now → AreBehind l.waiting.trace.now members (take l.stretch-index l.stretches)
