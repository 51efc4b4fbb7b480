use Rattle.forced_order.proofs.ForcedLemmas.{forced_before}
use Rattle.forced_order.proofs.laws.forced_stands.Goals as goal

pub returns : goal.returns
returns c t names m n legal h = forced_before t names m n legal.interleaving h
