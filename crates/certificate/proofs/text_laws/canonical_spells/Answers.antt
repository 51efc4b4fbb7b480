use Rattle.certificate.proofs.CertificateText.WrittenLemmas.{written_spells}
use Rattle.certificate.proofs.text_laws.canonical_spells.Goals as goal

pub returns : goal.returns
returns c = written_spells
