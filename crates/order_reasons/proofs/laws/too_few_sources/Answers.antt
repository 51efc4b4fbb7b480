use Rattle.order_reasons.proofs.CountReasons.{counted}
use Rattle.order_reasons.proofs.laws.too_few_sources.Goals as goal

pub returns : goal.returns
returns c t clause members left h names legal = counted t names legal clause members left h
