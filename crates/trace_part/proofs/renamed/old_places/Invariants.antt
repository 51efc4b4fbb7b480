use Rattle.std.proofs.Common.{◌≡◌, map, take}
use Rattle.trace_part.specs.Rows.{LeftValue}
use Rattle.trace_part.proofs.renamed.old_places.Given as goal

abbrev pub invariant-loop-k : goal.invariant-loop-k
invariant-loop-k l = l.places.items ≡ map (λ (left : LeftValue). left.places) (take l.k l.all)
