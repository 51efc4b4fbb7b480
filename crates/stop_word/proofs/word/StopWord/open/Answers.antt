use Rattle.std.proofs.Common.{arith}
use Rattle.stop_word.proofs.SeatLemmas.{one_cut, all_cut}
use Rattle.stop_word.proofs.word.StopWord.open.Goals as goal

pub loop-preserved : goal.loop-preserved
loop-preserved c =
    rw c.in_ok-push.ensures.items
    (one_cut _ _ _ _ _ _ c.loop.invariant (omega (arith, c.loop.invariant.parts_left, c.loop-test.true, c.requires.few)) c.cut.ensures.word c.cut.ensures.left c.cut.ensures.word_of_new c.cut.ensures.right)

pub returns-clause-all : goal.returns-clause-all
returns-clause-all c = rw c.in_ok-push-2.ensures.items (all_cut _ _ _ _ c.loop.invariant).1

pub returns-clause-new : goal.returns-clause-new
returns-clause-new c = rw c.in_ok-push-2.ensures.items (all_cut _ _ _ _ c.loop.invariant).2
