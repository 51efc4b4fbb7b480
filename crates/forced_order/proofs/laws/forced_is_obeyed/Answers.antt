use Rattle.forced_order.proofs.ForcedLemmas.{forced_before}
use Rattle.forced_order.proofs.laws.forced_is_obeyed.Goals as goal

pub returns : goal.returns
returns c t ordered within names legal m n first second h = forced_before t names m n legal.interleaving (within m n first second h)
