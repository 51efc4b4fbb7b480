use Rattle.job_board.proofs.TwoRules.StepLemmas.{cuts_jobs, cuts_results}
use Rattle.job_board.proofs.board.Board.cut.Goals as goal

pub another-requires-clause-rule : goal.another-requires-clause-rule
another-requires-clause-rule c = cuts_jobs _ _ _ _ _ c.requires.jobs.1

pub another-requires-2-clause-rule : goal.another-requires-2-clause-rule
another-requires-2-clause-rule c = cuts_results _ _ _ _ _ c.requires.results.1
