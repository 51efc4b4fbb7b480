use Rattle.std.proofs.Common.{arith}
use Rattle.job_board.proofs.OpenLemmas.{one_cut}
use Rattle.job_board.proofs.board.Board.cut_all.Goals as goal

pub loop-number-preserved : goal.loop-number-preserved
loop-number-preserved c = (
  c.cut.ensures.jobs.0,
  c.cut.ensures.jobs.1,
  c.cut.ensures.results.0,
  c.cut.ensures.results.1,
  rw c.in_ok-push.ensures.items (one_cut _ _ _ _ c.loop-number.invariant.4 c.cut.ensures.seat c.cut.ensures.number c.cut.ensures.idle),
  omega (arith, c.loop-number-test.true),
)
