use Rattle.job_board.proofs.TwoRules.JobRuleLemmas as dealt
use Rattle.job_board.proofs.TwoRules.ResultRuleLemmas as gathered
use Rattle.job_board.proofs.board.Board.with_channels.Goals as goal

pub bounded_with-requires-clause-rule : goal.bounded_with-requires-clause-rule
bounded_with-requires-clause-rule c = dealt.begins

pub bounded_with-requires-2-clause-rule : goal.bounded_with-requires-2-clause-rule
bounded_with-requires-2-clause-rule c = gathered.begins
