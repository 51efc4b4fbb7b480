use Rattle.certificate.proofs.RecheckLawLemmas.{no_model_anywhere}
use Rattle.certificate.proofs.laws.accepted_has_no_model.Goals as goal

pub returns : goal.returns
returns c = no_model_anywhere
