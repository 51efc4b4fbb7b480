-- How many different names there are.
use Rattle.std.specs.Prelude.{◌≡◌, ◌+◌, ◌||◌, ◌&&◌, not, nat_le, ℕ, List, length, min, if◌then◌else◌}
use Rattle.std.specs.Str.{bytes_eq}
use Rattle.trace_semantics.specs.declared.limits.Limits.TheVariants.{Small}
use Rattle.trace_semantics.specs.Limits.{max_locations}
use Rattle.trace_semantics.specs.Locations.{distinct, holds_name}
use Rattle.trace_text.specs.declared.location_count.LocationCount.{LocationCount}
use Rattle.trace_text.specs.Seen.{has}

-- these names are counted, up to one more than the limit of versions 1 and 2
pub record IsCountOf (names : List (List ℕ)) (counted : LocationCount) : Type 0 where
  pub known : (q : List ℕ) → has counted.names q ≡ holds_name names q
  pub count : counted.count ≡ min (length (distinct names)) (max_locations Small + 1)

-- one more name is counted
pub record CountsOne (old new : LocationCount) (name : List ℕ) : Type 0 where
  pub known : (q : List ℕ) → has new.names q ≡ (bytes_eq name q || has old.names q)
  pub count : new.count ≡ (if not (has old.names name) && nat_le old.count (max_locations Small) then old.count + 1 else old.count)
