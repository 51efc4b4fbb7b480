use Rattle.cube_tree.proofs.TextLawLemmas.{one_refused}
use Rattle.cube_tree.proofs.tree_laws.one_tree_fault.Goals as goal

pub returns : goal.returns
returns c = one_refused
