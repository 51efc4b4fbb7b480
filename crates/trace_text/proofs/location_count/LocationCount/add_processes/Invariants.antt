use Rattle.std.proofs.Common.{ℕ, List, ◌++◌, take}
use Rattle.std.specs.List.{flat_map}
use Rattle.trace_text.specs.LocationCount.{IsCountOf}
use Rattle.trace_text.proofs.NamedLocations.{process_names}
use Rattle.trace_text.proofs.location_count.LocationCount.add_processes.Given as goal

abbrev pub invariant-loop-process : goal.invariant-loop-process
invariant-loop-process l = (names : List (List ℕ)) → IsCountOf names l.initial.self → IsCountOf (names ++ flat_map process_names (take l.process-index l.processes)) l.self
