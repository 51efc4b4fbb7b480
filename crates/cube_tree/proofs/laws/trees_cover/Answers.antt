use Rattle.cube_tree.proofs.CoverLemmas.{tree_covers}
use Rattle.cube_tree.proofs.laws.trees_cover.Goals as goal

pub returns : goal.returns
returns c = tree_covers
