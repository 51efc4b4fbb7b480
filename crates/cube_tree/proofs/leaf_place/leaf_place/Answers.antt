use Rattle.std.proofs.Common.{◌∷◌, [], ap, arith}
use Rattle.cube_tree.specs.declared.node.Node.{Node}
use Rattle.cube_tree.specs.TreeFault.{leaf_count}
use Rattle.cube_tree.proofs.LeafLemmas.{leaf_at, passed_more, no_leaf}
use Rattle.cube_tree.proofs.leaf_place.leaf_place.Goals as goal
use Rattle.cube_tree.proofs.leaf_place.leaf_place.Goals.{in-Leaf+else-passed-k, in_default}

pub returns-then-passed-k : goal.returns-then-passed-k
returns-then-passed-k c = leaf_at _ _ _ _ c.in-Leaf.is c.loop-place-test.true c.loop-place.invariant.counted c.if-passed-k.true

pub loop-place-preserved : goal.loop-place-preserved
loop-place-preserved c =
    let more = passed_more c.args.nodes.now c.loop-place.place c.loop-place.passed c.loop-place-test.true c.loop-place.invariant.counted in
    elim c.match-nodes-place.branch [
      | in-Leaf+else-passed-k w ↦ (
          let one = ap (λ (n : Node). leaf_count (n ∷ [])) w.in-Leaf.is in
          record { counted = omega (arith, more, one, w.passed-is); within = omega (arith, w.passed-is, c.loop-place.invariant.within); few = omega (arith, w.passed-is, w.if-passed-k.false, c.loop-place.invariant.few) })
      | in_default w ↦ (
          let none = no_leaf _ w.in_default.not-Leaf in
          record { counted = omega (arith, more, none, w.passed-is); within = omega (arith, w.passed-is, c.loop-place.invariant.within); few = omega (arith, w.passed-is, c.loop-place.invariant.few) })
    ]
