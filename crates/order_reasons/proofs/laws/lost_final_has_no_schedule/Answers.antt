use Rattle.std.proofs.Common.{[]}
use Rattle.order_reasons.proofs.SourceReasons.{lost_final}
use Rattle.order_reasons.proofs.laws.lost_final_has_no_schedule.Goals as goal

pub returns : goal.returns
returns c t location h names legal = lost_final t names legal [] location h
