use Rattle.std.proofs.Common.{length}
use Rattle.stop_word.proofs.SeatLemmas.{AreJoined}
use Rattle.stop_word.proofs.word.StopWord.close.Given as goal

abbrev pub invariant-loop-seat : goal.invariant-loop-seat
invariant-loop-seat l = AreJoined l.self l.fn.seats.items l.whole l.seats.items

abbrev pub decreases-loop-seat : goal.decreases-loop-seat
decreases-loop-seat l = length l.seats.items
