use Rattle.lrat_check.proofs.RefusalLemmas.{always_one}
use Rattle.lrat_check.proofs.laws.accepted_or_refused.Goals as goal

pub returns : goal.returns
returns c = always_one
