use Rattle.lrat_check.proofs.DerivationText.LratLawLemmas.{spelled_or_refused}
use Rattle.lrat_check.proofs.lrat_laws.spelled_or_faulty.Goals as goal

pub returns : goal.returns
returns c = spelled_or_refused
