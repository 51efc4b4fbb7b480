use Rattle.job_board.proofs.TwoRules.StepLemmas.{gives}
use Rattle.job_board.proofs.board.Board.give.Goals as goal

pub send_as-requires-clause-rule : goal.send_as-requires-clause-rule
send_as-requires-clause-rule g c = gives _ _ _ _ _ _ c.args.seat.now.gives
