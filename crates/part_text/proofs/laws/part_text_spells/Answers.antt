use Rattle.part_text.proofs.PartTextLemmas.{text_spells}
use Rattle.part_text.proofs.laws.part_text_spells.Goals as goal

pub returns : goal.returns
returns c = text_spells
