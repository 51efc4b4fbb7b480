use Rattle.cube_tree.proofs.WrittenLemmas.{written_spells}
use Rattle.cube_tree.proofs.tree_laws.canonical_spells.Goals as goal

pub returns : goal.returns
returns c = written_spells
