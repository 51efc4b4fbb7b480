use Rattle.certificate.proofs.CertificateText.TextLawLemmas.{never_both}
use Rattle.certificate.proofs.text_laws.never_spelled_and_faulty.Goals as goal

pub returns : goal.returns
returns c = never_both
