use Rattle.lrat_check.proofs.OtherCubeLemmas.{accepted_too}
use Rattle.lrat_check.proofs.laws.accepted_for_other_cubes.Goals as goal

pub returns : goal.returns
returns c = accepted_too
