use Rattle.std.proofs.Common.{◌≡◌, None}
use Rattle.job_board.specs.InFlight.{ticket_in}
use Rattle.job_board.specs.Seats.{IsWorkerAt}
use Rattle.tests_cubes.proofs.workers.boards.work.Given as goal

abbrev pub invariant-loop : goal.invariant-loop
invariant-loop g l = IsWorkerAt l.fn.board l.seat × (l.seat.number ≡ l.fn.seat.number) × (ticket_in l.seat.hand ≡ None)
