use Rattle.std.proofs.Common.{◌≡◌, length}
use Rattle.job_board.specs.Seats.{gathered_by, IsCollectorAt}
use Rattle.cube_queue.proofs.gathering.gather_all.Given as goal

abbrev pub invariant-loop : goal.invariant-loop
invariant-loop g l = IsCollectorAt l.fn.board l.seat × (l.results.items ≡ gathered_by l.seat) × (length l.results.items ≡ l.counter)
