use Rattle.schedule_text.proofs.ScheduleTextLemmas.{one_spelled}
use Rattle.schedule_text.proofs.schedule_laws.one_schedule.Goals as goal

pub returns : goal.returns
returns c = one_spelled
