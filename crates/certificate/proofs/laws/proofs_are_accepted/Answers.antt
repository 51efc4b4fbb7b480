use Rattle.certificate.proofs.RecheckLawLemmas.{proofs_accepted}
use Rattle.certificate.proofs.laws.proofs_are_accepted.Goals as goal

pub returns : goal.returns
returns c = proofs_accepted
