use Rattle.order_reasons.proofs.WaitReasons.{first_waits}
use Rattle.order_reasons.proofs.laws.one_comes_first.Goals as goal

pub returns : goal.returns
returns c t clause members h names legal = first_waits t names legal clause members h
