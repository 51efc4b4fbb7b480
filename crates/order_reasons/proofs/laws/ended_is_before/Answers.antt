use Rattle.order_reasons.proofs.OrderReasons.{times_stand}
use Rattle.order_reasons.proofs.laws.ended_is_before.Goals as goal

pub returns : goal.returns
returns c t clause m n h names legal = times_stand t names legal.interleaving clause m n h
