use Rattle.text_lines.proofs.FaultLemmas.{one_first}
use Rattle.text_lines.proofs.first_fault.one_first_fault.Goals as goal

pub returns : goal.returns
returns g c = one_first
