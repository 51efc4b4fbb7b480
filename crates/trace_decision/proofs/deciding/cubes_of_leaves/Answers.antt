use Rattle.std.proofs.Common.{get_or, arith}
use Rattle.std.proofs.lemmas.List.Elements.{Contains-get_or}
use Rattle.trace_decision.proofs.deciding.cubes_of_leaves.Goals as goal

pub cube-requires : goal.cube-requires
cube-requires c = c.requires (get_or c.args.leaves.now c.loop-leaf.leaf-index 0) (Contains-get_or c.args.leaves.now c.loop-leaf.leaf-index 0 (omega arith))
