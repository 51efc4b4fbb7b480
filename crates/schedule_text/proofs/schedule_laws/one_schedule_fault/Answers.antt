use Rattle.schedule_text.proofs.ScheduleTextLemmas.{one_refused}
use Rattle.schedule_text.proofs.schedule_laws.one_schedule_fault.Goals as goal

pub returns : goal.returns
returns c = one_refused
