use Rattle.var_layout.proofs.VariableLemmas.{orders_over}
use Rattle.var_layout.proofs.ranges.order_literals_are_over_the_variables.Goals as goal

pub returns : goal.returns
returns c = orders_over
