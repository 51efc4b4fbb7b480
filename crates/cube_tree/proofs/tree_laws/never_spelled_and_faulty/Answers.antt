use Rattle.cube_tree.proofs.TextLawLemmas.{never_both}
use Rattle.cube_tree.proofs.tree_laws.never_spelled_and_faulty.Goals as goal

pub returns : goal.returns
returns c = never_both
