use Rattle.job_board.proofs.TwoRules.StepLemmas.{takes}
use Rattle.job_board.proofs.board.Board.take.Goals as goal

pub recv_as-requires-clause-rule : goal.recv_as-requires-clause-rule
recv_as-requires-clause-rule g c = takes _ _ _ _ c.args.seat.now.takes
