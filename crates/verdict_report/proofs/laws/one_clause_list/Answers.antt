use Rattle.verdict_report.proofs.AdmittedLemmas.{one_list}
use Rattle.verdict_report.proofs.laws.one_clause_list.Goals as goal

pub returns : goal.returns
returns c = one_list
