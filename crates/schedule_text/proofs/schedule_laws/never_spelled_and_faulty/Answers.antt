use Rattle.schedule_text.proofs.ScheduleTextLemmas.{never_both}
use Rattle.schedule_text.proofs.schedule_laws.never_spelled_and_faulty.Goals as goal

pub returns : goal.returns
returns c = never_both
