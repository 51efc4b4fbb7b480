use Rattle.std.proofs.Common.{length, reverse}
use Rattle.cube_tree.proofs.WalkLemmas.{IsWalk}
use Rattle.cube_tree.proofs.leaf_cubes.cubes.Given as goal

abbrev pub invariant-loop-node : goal.invariant-loop-node
invariant-loop-node l = IsWalk l.tree l.cubes.items (reverse l.due.items) l.rest

abbrev pub decreases-loop-node : goal.decreases-loop-node
decreases-loop-node l = length l.rest
