use Rattle.cnf_text.proofs.CnfLawLemmas.{never_both}
use Rattle.cnf_text.proofs.cnf_laws.never_spelled_and_faulty.Goals as goal

pub returns : goal.returns
returns c = never_both
