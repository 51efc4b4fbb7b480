use Rattle.std.proofs.Common.{ℕ, List, ◌++◌, take}
use Rattle.std.specs.List.{flat_map}
use Rattle.trace_text.specs.LocationCount.{IsCountOf}
use Rattle.trace_text.proofs.NamedLocations.{entry_names}
use Rattle.trace_text.proofs.location_count.LocationCount.add_values.Given as goal

abbrev pub invariant-loop-entry : goal.invariant-loop-entry
invariant-loop-entry l = (names : List (List ℕ)) → IsCountOf names l.initial.self → IsCountOf (names ++ flat_map entry_names (take l.entry-index l.values)) l.self
