use Rattle.lrat_check.proofs.DerivationText.LratLawLemmas.{one_spelled}
use Rattle.lrat_check.proofs.lrat_laws.one_derivation.Goals as goal

pub returns : goal.returns
returns c = one_spelled
