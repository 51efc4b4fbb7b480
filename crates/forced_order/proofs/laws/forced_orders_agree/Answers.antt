use Rattle.forced_order.proofs.ForcedLemmas.{orders_agree}
use Rattle.forced_order.proofs.laws.forced_orders_agree.Goals as goal

pub returns : goal.returns
returns c t first second given other = orders_agree t first second given other
