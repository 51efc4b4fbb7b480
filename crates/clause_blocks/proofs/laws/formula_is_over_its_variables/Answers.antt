use Rattle.clause_blocks.proofs.ClauseList.FormulaLemmas.{clauses_over}
use Rattle.clause_blocks.proofs.laws.formula_is_over_its_variables.Goals as goal

pub returns : goal.returns
returns c = clauses_over
