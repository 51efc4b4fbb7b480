use Rattle.var_layout.proofs.KnownPairs.UntimedLemmas.{without_times}
use Rattle.var_layout.proofs.laws.known_pairs_without_times.Goals as goal

pub returns : goal.returns
returns c t ok untimed = without_times t ok untimed
