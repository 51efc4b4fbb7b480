use Rattle.lrat_check.proofs.DerivationText.LratWrittenLemmas.{written_spells}
use Rattle.lrat_check.proofs.lrat_laws.canonical_spells.Goals as goal

pub returns : goal.returns
returns c = written_spells
