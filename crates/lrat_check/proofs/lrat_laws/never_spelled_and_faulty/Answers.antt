use Rattle.lrat_check.proofs.DerivationText.LratLawLemmas.{never_both}
use Rattle.lrat_check.proofs.lrat_laws.never_spelled_and_faulty.Goals as goal

pub returns : goal.returns
returns c = never_both
