use Rattle.std.proofs.Common.{◌≡◌, None}
use Rattle.job_board.specs.InFlight.{ticket_in}
use Rattle.job_board.specs.Seats.{given_by, IsWorkerAt}
use Rattle.cube_queue.specs.Workers.{IsHonest}
use Rattle.cube_queue.proofs.working.work.Given as goal

abbrev pub invariant-loop : goal.invariant-loop
invariant-loop g l =
    IsWorkerAt l.fn.site.board l.seat
    × (l.seat.number ≡ l.fn.member.seat.number)
    × (ticket_in l.seat.hand ≡ None)
    × (l.stop.word ≡ l.fn.site.word)
    × (l.stop.knows.parts ≡ l.fn.member.stop.knows.parts)
    × IsHonest (g.S.Settler.clauses l.fn.settler) l.stop.knows (given_by l.seat)
