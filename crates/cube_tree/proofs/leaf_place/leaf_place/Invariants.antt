use Rattle.std.proofs.Common.{◌≡◌, ◌≤◌, take}
use Rattle.cube_tree.specs.TreeFault.{leaf_count}
use Rattle.cube_tree.proofs.leaf_place.leaf_place.Given as goal

abbrev pub invariant-loop-place : goal.invariant-loop-place
invariant-loop-place l = record { counted : l.passed ≡ leaf_count (take l.place l.nodes); within : l.passed ≤ l.place; few : l.passed ≤ l.k }
