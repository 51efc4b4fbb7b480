use Rattle.order_reasons.proofs.OrderReasons.{pair_stands}
use Rattle.order_reasons.proofs.laws.pair_holds.Goals as goal

pub returns : goal.returns
returns c t clause m n h names legal = pair_stands t names legal.interleaving clause m n h
