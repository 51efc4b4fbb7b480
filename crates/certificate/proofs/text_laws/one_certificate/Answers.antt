use Rattle.certificate.proofs.CertificateText.TextLawLemmas.{one_spelled}
use Rattle.certificate.proofs.text_laws.one_certificate.Goals as goal

pub returns : goal.returns
returns c = one_spelled
