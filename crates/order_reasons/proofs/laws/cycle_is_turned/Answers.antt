use Rattle.order_reasons.proofs.OrderReasons.{cycle_holds}
use Rattle.order_reasons.proofs.laws.cycle_is_turned.Goals as goal

pub returns : goal.returns
returns c t clause first rest h names legal = cycle_holds t names legal.interleaving clause first rest h
