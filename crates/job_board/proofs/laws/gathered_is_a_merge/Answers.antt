use Rattle.job_board.proofs.TwoRules.LawLemmas.{got_is_merge}
use Rattle.job_board.proofs.laws.gathered_is_a_merge.Goals as goal

pub returns : goal.returns
returns c = λ queue views meets. got_is_merge queue views meets
