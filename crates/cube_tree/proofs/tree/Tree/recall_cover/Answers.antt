use Rattle.cube_tree.proofs.CoverLemmas.{tree_covers}
use Rattle.cube_tree.proofs.tree.Tree.recall_cover.Goals as goal

pub returns-clause-covers : goal.returns-clause-covers
returns-clause-covers c = tree_covers c.args.self.now c.nodes-nodes.ensures.tree.variables
