-- What limits have to do with one another.
use Rattle.std.proofs.Common.{◌≤◌, arith}
use Rattle.trace_semantics.specs.declared.limits.Limits.{Limits}
use Rattle.trace_semantics.specs.declared.limits.Limits.TheVariants.{Small, Large}
use Rattle.trace_semantics.specs.Limits.{max_operations, max_locations, max_pairs, max_place}

-- no limit is above the one that each trace keeps
pub operations_in : (limits : Limits) → max_operations limits ≤ max_operations Large
operations_in Small = omega arith
operations_in Large = omega arith

pub locations_in : (limits : Limits) → max_locations limits ≤ max_locations Large
locations_in Small = omega arith
locations_in Large = omega arith

pub pairs_in : (limits : Limits) → max_pairs limits ≤ max_pairs Large
pairs_in Small = omega arith
pairs_in Large = omega arith

pub places_in : (limits : Limits) → max_place limits ≤ max_place Large
places_in Small = omega arith
places_in Large = omega arith

-- each operation of a trace can be named
pub all_named : (limits : Limits) → max_operations limits ≤ max_place limits
all_named Small = omega arith
all_named Large = omega arith
