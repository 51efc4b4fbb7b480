use Rattle.certificate.proofs.CertificateText.TextLawLemmas.{one_refused}
use Rattle.certificate.proofs.text_laws.one_cert_fault.Goals as goal

pub returns : goal.returns
returns c = one_refused
