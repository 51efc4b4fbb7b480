use Rattle.cube_tree.proofs.WalkLemmas.{at_root}
use Rattle.cube_tree.proofs.leaf_cubes.cubes.Goals as goal

pub loop-node-init : goal.loop-node-init
loop-node-init c =
    rw (c.new-cubes.ensures.items, c.in_ok-push.ensures.items, c.new-due.ensures.items, c.empty.ensures) (at_root c.args.tree.now c.nodes-rest.result.now c.nodes-rest.ensures.nodes c.nodes-rest.ensures.tree)
