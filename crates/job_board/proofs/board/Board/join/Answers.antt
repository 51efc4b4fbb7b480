use Rattle.job_board.proofs.TwoRules.StepLemmas.{joins_jobs, joins_results}
use Rattle.job_board.proofs.board.Board.join.Goals as goal

pub absorb-requires-clause-rule : goal.absorb-requires-clause-rule
absorb-requires-clause-rule c = joins_jobs _ _ c.requires.jobs.1.0 _ c.requires.jobs.1.1 _ _ _ _ c.requires.jobs.1.2 c.args.seat.takes c.requires.jobs.1.3

pub absorb-requires-2-clause-rule : goal.absorb-requires-2-clause-rule
absorb-requires-2-clause-rule c = joins_results _ _ c.requires.results.1.0 _ c.requires.results.1.1 _ _ _ _ c.requires.results.1.2 c.args.seat.gives c.requires.results.1.3
