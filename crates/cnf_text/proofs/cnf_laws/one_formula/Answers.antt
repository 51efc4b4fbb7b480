use Rattle.cnf_text.proofs.CnfLawLemmas.{one_spelled}
use Rattle.cnf_text.proofs.cnf_laws.one_formula.Goals as goal

pub returns : goal.returns
returns c = one_spelled
