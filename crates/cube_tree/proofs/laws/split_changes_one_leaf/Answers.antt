use Rattle.cube_tree.proofs.SplitLemmas.{split_cubes}
use Rattle.cube_tree.proofs.laws.split_changes_one_leaf.Goals as goal

pub returns : goal.returns
returns c = split_cubes
