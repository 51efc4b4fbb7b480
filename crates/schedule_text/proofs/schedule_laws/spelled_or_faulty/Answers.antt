use Rattle.schedule_text.proofs.ScheduleTextLemmas.{spelled_or_refused}
use Rattle.schedule_text.proofs.schedule_laws.spelled_or_faulty.Goals as goal

pub returns : goal.returns
returns c = spelled_or_refused
