use Rattle.verdict_report.proofs.WrittenTextLemmas.{written_text_spells}
use Rattle.verdict_report.proofs.laws.written_text_spells.Goals as goal

pub returns : goal.returns
returns c = written_text_spells
