use Rattle.lrat_check.proofs.SoundLemmas.{implied_true}
use Rattle.lrat_check.proofs.laws.implied_follows.Goals as goal

pub returns : goal.returns
returns c = implied_true
