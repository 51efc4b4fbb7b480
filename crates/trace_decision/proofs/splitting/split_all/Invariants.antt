use Rattle.std.proofs.Common.{◌≡◌}
use Rattle.cube_tree.specs.CubeTree.{cubes_of}
use Rattle.result_ledger.specs.Ledger.{cubes_in}
use Rattle.trace_decision.proofs.GrownLemmas.{IsUnderWay}
use Rattle.trace_decision.proofs.splitting.split_all.Given as goal

abbrev pub invariant-loop-leaf : goal.invariant-loop-leaf
invariant-loop-leaf l = (cubes_in l.ledger ≡ cubes_of l.tree) × IsUnderWay l.variables l.leaves l.leaf-index l.initial.ledger l.ledger
