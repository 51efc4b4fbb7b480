use Rattle.std.proofs.Common.{◌≡◌, ◌++◌, length}
use Rattle.std.specs.Vec.Iter.{into_iter_items, into_iter_len}
use Rattle.cube_queue.specs.Participants.{seats_of, stops_of}
use Rattle.cube_queue.proofs.closing.parted.Given as goal

abbrev pub invariant-loop-member : goal.invariant-loop-member
invariant-loop-member l =
    (l.seats.items ≡ seats_of l.yielded) × (l.stops.items ≡ stops_of l.yielded)
    × (l.fn.members.items ≡ l.yielded ++ into_iter_items l.member-iterator)
    × (into_iter_len l.member-iterator ≡ length (into_iter_items l.member-iterator))
