use Rattle.reason_check.proofs.LawLemmas.{no_schedule}
use Rattle.reason_check.proofs.laws.accepted_has_no_schedule.Goals as goal

pub returns : goal.returns
returns c = no_schedule
