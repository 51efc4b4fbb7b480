use Rattle.lrat_check.proofs.RefusalLemmas.{one_refused}
use Rattle.lrat_check.proofs.laws.one_refusal.Goals as goal

pub returns : goal.returns
returns c = one_refused
