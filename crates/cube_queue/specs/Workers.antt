-- What a worker of a search may say, before it begins and after it has ended.
use Rattle.std.specs.Prelude.{◌≡◌, ℕ, ◌<◌, ℤ, List, None}
use Rattle.std.specs.List.{Contains}
use Rattle.cube_jobs.specs.declared.job.Settled.{Settled}
use Rattle.cube_jobs.specs.declared.outcome.Outcome.TheVariants.{Skipped}
use Rattle.cube_jobs.specs.Models.{IsModelResult}
use Rattle.job_board.specs.InFlight.{ticket_in}
use Rattle.job_board.specs.Seats.{given_by, IsWorkerAt, IsIdle}
use Rattle.stop_word.specs.declared.views.View.{View}
use Rattle.stop_word.specs.Seats.{KnowsNothing}
use Rattle.cube_queue.specs.declared.participants.Worker.{Worker}
use Rattle.cube_queue.specs.declared.shared_search.SharedSearch.{SharedSearch}

-- each mark is the ticket of a result that was given, a model of the clauses that makes its cube true
abbrev pub MarkModels : List (List ℤ) → List ℕ → List Settled → Type 0
MarkModels clauses marks given = (k : ℕ) → Contains marks k → (settled : Settled) × Contains given settled × (settled.ticket ≡ k) × IsModelResult clauses settled

-- A worker that knows this of the stop word marked only what it may, and skipped a job only where it was shown a lower mark.
pub record IsHonest (clauses : List (List ℤ)) (knows : View) (given : List Settled) : Type 0 where
  pub marked : MarkModels clauses knows.marks given
  pub skipped : (settled : Settled) → Contains given settled → settled.outcome ≡ Skipped → knows.least < settled.ticket

-- a worker of this shared search that has taken, given, marked and been shown nothing
pub record IsReady (site : SharedSearch) (member : Worker) : Type 0 where
  pub at : IsWorkerAt site.board member.seat
  pub idle : IsIdle member.seat
  pub word_is : member.stop.word ≡ site.word
  pub new : KnowsNothing member.stop.knows

-- A worker of this shared search, before and after its work: it has the same number, and the same parts of the stop word. If no job of it
-- is left in flight, it was honest.
pub record HasWorked (clauses : List (List ℤ)) (site : SharedSearch) (before after : Worker) : Type 0 where
  pub at : IsWorkerAt site.board after.seat
  pub number_is : after.seat.number ≡ before.seat.number
  pub word_is : after.stop.word ≡ site.word
  pub parts_are : after.stop.knows.parts ≡ before.stop.knows.parts
  pub honest : ticket_in after.seat.hand ≡ None → IsHonest clauses after.stop.knows (given_by after.seat)
