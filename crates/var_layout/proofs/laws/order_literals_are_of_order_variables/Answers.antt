use Rattle.var_layout.proofs.OrderLemmas.{order_literal}
use Rattle.var_layout.proofs.laws.order_literals_are_of_order_variables.Goals as goal

pub returns : goal.returns
returns c = order_literal
