use Rattle.cube_tree.proofs.TreeLemmas.{cubes_counted}
use Rattle.cube_tree.proofs.laws.a_cube_for_each_leaf.Goals as goal

pub returns : goal.returns
returns c = cubes_counted
