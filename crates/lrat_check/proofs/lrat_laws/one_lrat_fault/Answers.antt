use Rattle.lrat_check.proofs.DerivationText.LratLawLemmas.{one_refused}
use Rattle.lrat_check.proofs.lrat_laws.one_lrat_fault.Goals as goal

pub returns : goal.returns
returns c = one_refused
