use Rattle.dimacs.proofs.ModelLemmas.{model_or_first}
use Rattle.dimacs.proofs.model_laws.model_or_first_false.Goals as goal

pub returns : goal.returns
returns c = model_or_first
