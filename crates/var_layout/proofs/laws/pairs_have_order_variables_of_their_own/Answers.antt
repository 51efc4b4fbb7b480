use Rattle.var_layout.proofs.OrderLemmas.{pairs_apart}
use Rattle.var_layout.proofs.laws.pairs_have_order_variables_of_their_own.Goals as goal

pub returns : goal.returns
returns c = pairs_apart
