use Rattle.std.proofs.Common.{◌≡◌, map, take}
use Rattle.restriction.specs.Left.{left_process}
use Rattle.reducer.specs.Reduction.{kept_op}
use Rattle.reducer.proofs.kept.kept_processes.Given as goal

abbrev pub invariant-loop-k : goal.invariant-loop-k
invariant-loop-k l = l.new.items ≡ map (left_process (kept_op l.trace)) (take l.k l.processes)
