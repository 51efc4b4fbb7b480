use Rattle.clause_blocks.proofs.TransitivityClauses.RankLemmas.{ranked_true}
use Rattle.clause_blocks.proofs.laws.ranked_without_cycle.Goals as goal

pub returns : goal.returns
returns c = ranked_true
