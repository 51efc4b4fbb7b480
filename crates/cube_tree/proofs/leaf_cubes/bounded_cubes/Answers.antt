use Rattle.std.proofs.Common.{◌≤◌, length, ap, arith}
use Rattle.cube_tree.specs.CubeTree.{leaves}
use Rattle.cube_tree.proofs.leaf_cubes.bounded_cubes.Goals as goal

pub returns-clause-few : goal.returns-clause-few
returns-clause-few c =
    let long = ap length c.in_ok-cubes.ensures in
    let count = c.a_cube_for_each_leaf.ensures c.args.tree.now in
    let few : leaves c.args.tree.now ≤ 1024 = c.recall_cover.ensures.tree.few in
    omega (arith, long, count, few)
