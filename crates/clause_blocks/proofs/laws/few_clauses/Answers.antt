use Rattle.clause_blocks.proofs.ClauseList.FewLemmas.{few_in_list}
use Rattle.clause_blocks.proofs.laws.few_clauses.Goals as goal

pub returns : goal.returns
returns c t ok few = few_in_list t ok few
