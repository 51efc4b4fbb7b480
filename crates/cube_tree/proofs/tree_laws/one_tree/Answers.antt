use Rattle.cube_tree.proofs.TextLawLemmas.{one_spelled}
use Rattle.cube_tree.proofs.tree_laws.one_tree.Goals as goal

pub returns : goal.returns
returns c = one_spelled
