use Rattle.lrat_check.proofs.SoundLemmas.{no_model}
use Rattle.lrat_check.proofs.laws.accepted_has_no_model.Goals as goal

pub returns : goal.returns
returns c = no_model
