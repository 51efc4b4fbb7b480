use Rattle.cnf_text.proofs.CnfLawLemmas.{one_refused}
use Rattle.cnf_text.proofs.cnf_laws.one_cnf_fault.Goals as goal

pub returns : goal.returns
returns c = one_refused
