use Rattle.std.proofs.Common.{take}
use Rattle.trace_decision.specs.Decision.{AreCubesOf}
use Rattle.trace_decision.proofs.deciding.cubes_of_leaves.Given as goal

abbrev pub invariant-loop-leaf : goal.invariant-loop-leaf
invariant-loop-leaf l = AreCubesOf l.ledger (take l.leaf-index l.leaves) l.cubes.items
