use Rattle.clause_blocks.proofs.TransitivityClauses.CountLemmas.{transitivity_count}
use Rattle.clause_blocks.proofs.laws.transitivity_has_so_many_clauses.Goals as goal

pub returns : goal.returns
returns c = transitivity_count
