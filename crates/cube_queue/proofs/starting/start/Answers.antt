use Rattle.cube_queue.proofs.starting.start.Goals as goal

pub invariant_of-refused : goal.invariant_of-refused
invariant_of-refused g c =
    let seat = c.in-Err._refused.value.4.seat in
    record { takes = seat.takes; gives = seat.gives; answers = seat.answers; within = seat.within; counted = seat.counted; settled = seat.settled; no_stop = seat.no_stop }
