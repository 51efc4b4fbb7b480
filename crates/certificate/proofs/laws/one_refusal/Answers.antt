use Rattle.certificate.proofs.RefusalLemmas.{one_refused}
use Rattle.certificate.proofs.laws.one_refusal.Goals as goal

pub returns : goal.returns
returns c = one_refused
