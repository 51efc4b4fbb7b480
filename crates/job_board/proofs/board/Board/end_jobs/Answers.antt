use Rattle.job_board.proofs.TwoRules.StepLemmas.{ends_jobs, jobs_shown}
use Rattle.job_board.proofs.board.Board.end_jobs.Goals as goal

pub try_recv_as-last-requires-clause-rule : goal.try_recv_as-last-requires-clause-rule
try_recv_as-last-requires-clause-rule g c = ends_jobs _ _ _ _ _ c.requires.knows.3

pub returns : goal.returns
returns g c = jobs_shown _ _ _ c.try_recv_as-last.ensures.rule
