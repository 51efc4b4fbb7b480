use Rattle.text_lines.proofs.FaultLemmas.{either}
use Rattle.text_lines.proofs.first_fault.faultless_or_faulty.Goals as goal

pub returns : goal.returns
returns g c = either
