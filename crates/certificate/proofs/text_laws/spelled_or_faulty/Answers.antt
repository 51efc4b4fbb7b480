use Rattle.certificate.proofs.CertificateText.EitherLemmas.{spelled_or_refused}
use Rattle.certificate.proofs.text_laws.spelled_or_faulty.Goals as goal

pub returns : goal.returns
returns c = spelled_or_refused
