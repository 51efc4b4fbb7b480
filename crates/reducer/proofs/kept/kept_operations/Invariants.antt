use Rattle.std.proofs.Common.{◌≡◌, map, take}
use Rattle.std.specs.List.{filter_map}
use Rattle.restriction.specs.Left.{new_op}
use Rattle.reducer.specs.Reduction.{kept_op, kept_names}
use Rattle.reducer.proofs.kept.kept_operations.Given as goal

abbrev pub invariant-loop-k : goal.invariant-loop-k
invariant-loop-k l = l.ops.items ≡ map (new_op (kept_op l.trace)) (filter_map (kept_op l.trace) (take l.k (kept_names l.trace l.process)))
