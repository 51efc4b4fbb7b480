use Rattle.var_layout.proofs.KnownPairs.SaidLemmas.{pair_apart}
use Rattle.var_layout.proofs.laws.known_pairs_are_apart.Goals as goal

pub returns : goal.returns
returns c = pair_apart
