use Rattle.lrat_check.proofs.RefusalLemmas.{never_both}
use Rattle.lrat_check.proofs.laws.never_accepted_and_refused.Goals as goal

pub returns : goal.returns
returns c = never_both
