use Rattle.std.proofs.Common.{◌≡◌}
use Rattle.cube_tree.specs.CubeTree.{cubes_of}
use Rattle.result_ledger.specs.Ledger.{cubes_in}
use Rattle.tests_cubes.proofs.cubes.false_searches.split_all.Given as goal

abbrev pub invariant-loop-leaf : goal.invariant-loop-leaf
invariant-loop-leaf g l = cubes_in l.ledger ≡ cubes_of l.tree
