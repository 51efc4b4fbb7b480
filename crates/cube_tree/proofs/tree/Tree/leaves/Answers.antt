use Rattle.std.proofs.Common.{length, ap, ◌∙◌, arith}
use Rattle.cube_tree.specs.TreeFault.{leaf_count}
use Rattle.cube_tree.proofs.TreeLemmas.{node_count, leaves_counted}
use Rattle.cube_tree.proofs.tree.Tree.leaves.Goals as goal

pub count_leaves-requires : goal.count_leaves-requires
count_leaves-requires c = omega (arith, ap length c.nodes.ensures.nodes, node_count c.args.self.now, c.nodes.ensures.tree.few)

pub returns : goal.returns
returns c = c.count_leaves.ensures ∙ ap leaf_count c.nodes.ensures.nodes ∙ leaves_counted c.args.self.now
