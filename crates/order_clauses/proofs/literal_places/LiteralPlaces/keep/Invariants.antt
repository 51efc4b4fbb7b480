use Rattle.std.proofs.Common.{◌+◌, ◌-◌, vec_len}
use Rattle.order_clauses.proofs.literal_places.LiteralPlaces.keep.Given as goal

abbrev pub decreases-loop-self : goal.decreases-loop-self
decreases-loop-self l = l.number + 1 - vec_len l.self.places
