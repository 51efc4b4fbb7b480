use Rattle.lrat_check.proofs.SoundLemmas.{step_keeps}
use Rattle.lrat_check.proofs.laws.step_keeps_models.Goals as goal

pub returns : goal.returns
returns c = step_keeps
