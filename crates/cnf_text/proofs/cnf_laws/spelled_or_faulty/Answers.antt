use Rattle.cnf_text.proofs.CnfLawLemmas.{spelled_or_refused}
use Rattle.cnf_text.proofs.cnf_laws.spelled_or_faulty.Goals as goal

pub returns : goal.returns
returns c = spelled_or_refused
