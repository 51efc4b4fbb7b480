use Rattle.std.proofs.Common.{◌≡◌, ◌+◌, ◌<◌, length}
use Rattle.cube_tree.specs.TreeFault.{leaf_count}
use Rattle.cube_tree.proofs.tree.count_leaves.Given as goal

abbrev pub invariant-loop-node : goal.invariant-loop-node
invariant-loop-node l = record { counted : l.leaves + leaf_count l.rest ≡ leaf_count l.nodes; few : l.leaves + length l.rest < 4096 }

abbrev pub decreases-loop-node : goal.decreases-loop-node
decreases-loop-node l = length l.rest
