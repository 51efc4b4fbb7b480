use Rattle.std.proofs.Common.{◌≡◌, map, take}
use Rattle.restriction.specs.Left.{new_pair}
use Rattle.reducer.specs.Reduction.{kept_op}
use Rattle.reducer.proofs.kept.new_pairs.Given as goal

abbrev pub invariant-loop-k : goal.invariant-loop-k
invariant-loop-k l = l.new.items ≡ map (new_pair (kept_op l.trace)) (take l.k l.pairs)
