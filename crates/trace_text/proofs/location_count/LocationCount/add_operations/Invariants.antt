use Rattle.std.proofs.Common.{ℕ, List, ◌++◌, take}
use Rattle.std.specs.List.{flat_map}
use Rattle.trace_text.specs.LocationCount.{IsCountOf}
use Rattle.trace_text.proofs.NamedLocations.{operation_names}
use Rattle.trace_text.proofs.location_count.LocationCount.add_operations.Given as goal

abbrev pub invariant-loop-operation : goal.invariant-loop-operation
invariant-loop-operation l = (names : List (List ℕ)) → IsCountOf names l.initial.self → IsCountOf (names ++ flat_map operation_names (take l.operation-index l.operations)) l.self
