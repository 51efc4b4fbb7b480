use Rattle.stop_word.proofs.SeatLemmas.{first_joined, one_joined}
use Rattle.stop_word.proofs.word.StopWord.close.Goals as goal

pub loop-seat-init : goal.loop-seat-init
loop-seat-init c = first_joined _ _ _ _ c.in-Some.ensures.items c.requires

pub loop-seat-preserved : goal.loop-seat-preserved
loop-seat-preserved c = one_joined _ _ _ _ _ _ _ c.loop-seat.invariant c.in-Some-pop.ensures.items c.join.ensures.word c.join.ensures.both
