-- What is wrong where a search by several workers has no results.
use Rattle.std.specs.Prelude.{◌≡◌, ◌⊎◌, ⊤, ℕ, ◌+◌, ◌<◌, ◌≤◌, ℤ, List, length}
use Rattle.std.specs.List.{All}
use Rattle.text_lines.specs.declared.plain_fault.PlainFault.{PlainFault}
use Rattle.text_lines.specs.declared.plain_fault.PlainFault.TheVariants.{OutOfMemory, For}
use Rattle.cube_jobs.specs.declared.job.Job.{Job}
use Rattle.cube_jobs.specs.declared.search_fault.SearchCause.{SearchCause}
use Rattle.cube_jobs.specs.declared.search_fault.SearchCause.TheVariants.{Cut, NoThread}
use Rattle.job_board.specs.declared.board.Board.{Board}
use Rattle.job_board.specs.declared.seats.CollectorSeat.{CollectorSeat}
use Rattle.job_board.specs.declared.seats.DealerSeat.{DealerSeat}
use Rattle.job_board.specs.Seats.{put_by, gathered_by, IsDealerAt, IsCollectorAt}
use Rattle.cube_queue.specs.Participants.{AreJobsOf, WithStops}

-- A board at which several workers settle the jobs of these leaves: no more of them than may work, and no more than there are leaves.
pub record IsBoardOf (workers : ℕ) (cubes : List (List ℤ)) (which : List ℕ) (board : Board) : Type 0 where
  pub several : 2 ≤ board.workers
  pub few : board.workers ≤ workers
  pub used : board.workers ≤ length which
  pub cubes_are : board.cubes ≡ length cubes

-- No job was put at the board: all that the dealer has put are stop tickets. So no cube was searched.
pub record HasPutNoJob (board : Board) : Type 0 where
  pub dealer : DealerSeat
  pub dealer_at : IsDealerAt board dealer
  pub stops : All (λ (job : Job). board.cubes ≤ job.ticket) (put_by dealer)

-- The dealer has put fewer than these jobs and a stop ticket for each worker: one of them came back.
pub record HasPutFewer (board : Board) (jobs : List Job) : Type 0 where
  pub dealer : DealerSeat
  pub dealer_at : IsDealerAt board dealer
  pub fewer : length (put_by dealer) < length jobs + board.workers

-- These jobs were put, and the collector has gathered fewer results: no more came.
pub record HasGatheredFewer (board : Board) (jobs : List Job) : Type 0 where
  pub dealer : DealerSeat
  pub dealer_at : IsDealerAt board dealer
  pub dealt : WithStops board.cubes jobs (put_by dealer)
  pub collector : CollectorSeat
  pub collector_at : IsCollectorAt board collector
  pub fewer : length (gathered_by collector) < length jobs

-- what a cause says of the board at which these jobs were to be settled
abbrev pub HasGoneWrong : Board → List Job → SearchCause → Type 0
HasGoneWrong board jobs NoThread = HasPutNoJob board
HasGoneWrong board jobs Cut = HasPutFewer board jobs ⊎ HasGatheredFewer board jobs

-- What a fault says of that board. That memory ran out says nothing.
abbrev pub IsFaultAt : Board → List Job → PlainFault SearchCause → Type 0
IsFaultAt board jobs OutOfMemory = ⊤
IsFaultAt board jobs (For cause) = HasGoneWrong board jobs cause

-- What a fault says of a search of these leaves' cubes by at most `workers` workers: several were to settle the leaves' jobs at a board,
-- and there this went wrong. So a single worker, or one for a single leaf, fails only if memory runs out.
abbrev pub IsFaultOf : ℕ → List (List ℤ) → List ℕ → PlainFault SearchCause → Type 0
IsFaultOf workers cubes which OutOfMemory = ⊤
IsFaultOf workers cubes which (For cause) = (board : Board) × (jobs : List Job) × IsBoardOf workers cubes which board × AreJobsOf cubes which jobs × HasGoneWrong board jobs cause
