use Rattle.std.proofs.Common.{◌+◌, ◌≤◌}
use Rattle.job_board.specs.Seats.{put_by, IsDealerAt}
use Rattle.cube_queue.proofs.JobsPut.PutLemmas.{ArePutBelow}
use Rattle.cube_queue.proofs.putting.put_stops.Given as goal

abbrev pub invariant-loop-worker : goal.invariant-loop-worker
invariant-loop-worker g l =
    IsDealerAt l.fn.board l.seat
    × ArePutBelow l.fn.board.cubes (l.fn.board.cubes + l.worker) (put_by l.fn.seat) (put_by l.seat)
    × (l.worker ≤ l.fn.board.workers)
