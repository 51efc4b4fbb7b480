use Rattle.dimacs.proofs.ModelLemmas.{no_model}
use Rattle.dimacs.proofs.model_laws.never_model_and_first_false.Goals as goal

pub returns : goal.returns
returns c = λ value clauses place model first. no_model value clauses place first model
