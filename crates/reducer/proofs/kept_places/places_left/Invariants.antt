use Rattle.std.proofs.Common.{◌≡◌, map, take}
use Rattle.reducer.specs.Runs.{without_last}
use Rattle.reducer.proofs.kept_places.places_left.Given as goal

abbrev pub invariant-loop-k : goal.invariant-loop-k
invariant-loop-k l = l.left.items ≡ map without_last (take l.k l.all)
