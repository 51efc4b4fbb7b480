use Rattle.std.proofs.Common.{◌≡◌, map, take}
use Rattle.reducer.specs.Runs.{bounds_of}
use Rattle.reducer.proofs.kept_places.all_bounds.Given as goal

abbrev pub invariant-loop-process : goal.invariant-loop-process
invariant-loop-process l = l.all.items ≡ map (bounds_of l.trace) (take l.process-index l.processes)
