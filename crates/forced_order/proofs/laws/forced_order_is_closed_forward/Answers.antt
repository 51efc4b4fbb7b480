use Rattle.forced_order.proofs.ForcedLemmas.{forced_forward}
use Rattle.forced_order.proofs.laws.forced_order_is_closed_forward.Goals as goal

pub returns : goal.returns
returns c t ordered given = forced_forward t ordered given
