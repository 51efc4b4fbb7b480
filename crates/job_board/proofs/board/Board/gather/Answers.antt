use Rattle.job_board.proofs.TwoRules.StepLemmas.{gathers}
use Rattle.job_board.proofs.board.Board.gather.Goals as goal

pub recv_as-requires-clause-rule : goal.recv_as-requires-clause-rule
recv_as-requires-clause-rule g c = gathers _ _ _ _ _ c.requires.seat.knows
