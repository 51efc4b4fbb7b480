use Rattle.job_board.proofs.TwoRules.LawLemmas.{put_is_merge}
use Rattle.job_board.proofs.laws.put_is_a_merge.Goals as goal

pub returns : goal.returns
returns c = λ queue views meets. put_is_merge queue views meets
