use Rattle.schedule_text.proofs.ScheduleWrittenLemmas.{written_spells}
use Rattle.schedule_text.proofs.schedule_laws.canonical_spells.Goals as goal

pub returns : goal.returns
returns c = written_spells
