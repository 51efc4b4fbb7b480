use Rattle.reducer.proofs.DroppedReads.InterleavingLemmas.{expansion_interleaves}
use Rattle.reducer.proofs.laws.expansion_is_an_interleaving.Goals as goal

pub returns : goal.returns
returns c = expansion_interleaves
