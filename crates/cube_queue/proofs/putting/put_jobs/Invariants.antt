use Rattle.std.proofs.Common.{◌≡◌, ◌++◌, length}
use Rattle.std.specs.Vec.Iter.{into_iter_items, into_iter_len}
use Rattle.job_board.specs.Seats.{put_by, IsDealerAt}
use Rattle.cube_queue.proofs.putting.put_jobs.Given as goal

abbrev pub invariant-loop-job : goal.invariant-loop-job
invariant-loop-job g l =
    IsDealerAt l.fn.board l.seat
    × (put_by l.seat ≡ l.yielded)
    × (l.fn.jobs.items ≡ l.yielded ++ into_iter_items l.job-iterator)
    × (into_iter_len l.job-iterator ≡ length (into_iter_items l.job-iterator))
