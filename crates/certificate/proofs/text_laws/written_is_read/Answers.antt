use Rattle.certificate.proofs.CertificateText.WrittenLemmas.{written_read}
use Rattle.certificate.proofs.text_laws.written_is_read.Goals as goal

pub returns : goal.returns
returns c = written_read
