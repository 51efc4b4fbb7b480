use Rattle.std.proofs.Common.{◌≡◌, ◌++◌, length}
use Rattle.std.specs.Vec.Iter.{into_iter_items, into_iter_len}
use Rattle.cube_queue.specs.Participants.{seats_of, stops_of}
use Rattle.cube_queue.proofs.opening.paired.Given as goal

abbrev pub invariant-loop-seat : goal.invariant-loop-seat
invariant-loop-seat l =
    (seats_of l.members.items ≡ l.yielded)
    × (l.fn.seats.items ≡ l.yielded ++ into_iter_items l.seat-iterator)
    × (into_iter_len l.seat-iterator ≡ length (into_iter_items l.seat-iterator))
    × (l.fn.stops.items ≡ stops_of l.members.items ++ into_iter_items l.stops)
    × (into_iter_len l.stops ≡ length (into_iter_items l.stops))
    × (into_iter_len l.stops ≡ into_iter_len l.seat-iterator)
