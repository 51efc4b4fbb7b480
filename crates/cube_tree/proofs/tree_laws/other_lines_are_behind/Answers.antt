use Rattle.cube_tree.proofs.WrittenLemmas.{others_behind}
use Rattle.cube_tree.proofs.tree_laws.other_lines_are_behind.Goals as goal

pub returns : goal.returns
returns c = others_behind
