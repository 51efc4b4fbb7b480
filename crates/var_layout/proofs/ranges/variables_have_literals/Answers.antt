use Rattle.var_layout.proofs.VariableLemmas.{have_literals}
use Rattle.var_layout.proofs.ranges.variables_have_literals.Goals as goal

pub returns : goal.returns
returns c = have_literals
