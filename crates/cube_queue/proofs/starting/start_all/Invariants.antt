use Rattle.std.proofs.Common.{◌≡◌, ◌++◌, length}
use Rattle.std.specs.Vec.Iter.{into_iter_items, into_iter_len}
use Rattle.cube_queue.proofs.Workers.HandleLemmas.{AreStarted}
use Rattle.cube_queue.proofs.starting.start_all.Given as goal

abbrev pub invariant-loop-member : goal.invariant-loop-member
invariant-loop-member g l =
    (l.fn.members.items ≡ l.yielded ++ into_iter_items l.member-iterator)
    × (into_iter_len l.member-iterator ≡ length (into_iter_items l.member-iterator))
    × AreStarted _ l.fn.site l.fn.settler l.yielded l.handles.items
