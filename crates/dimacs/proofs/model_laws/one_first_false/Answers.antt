use Rattle.dimacs.proofs.ModelLemmas as models
use Rattle.dimacs.proofs.model_laws.one_first_false.Goals as goal

pub returns : goal.returns
returns c = models.one_first_false
