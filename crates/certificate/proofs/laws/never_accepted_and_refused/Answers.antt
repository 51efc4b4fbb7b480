use Rattle.certificate.proofs.RefusalLemmas.{never_both}
use Rattle.certificate.proofs.laws.never_accepted_and_refused.Goals as goal

pub returns : goal.returns
returns c = never_both
