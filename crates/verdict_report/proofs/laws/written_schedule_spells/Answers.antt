use Rattle.verdict_report.proofs.LegalTextLemmas.{spells}
use Rattle.verdict_report.proofs.laws.written_schedule_spells.Goals as goal

pub returns : goal.returns
returns c = spells
