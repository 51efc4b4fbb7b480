-- Seats at a board, and the lists that they have.
use Rattle.std.specs.Prelude.{◌≡◌, ℕ, List, [], length, Some}
use Rattle.std.specs.List.{slice_get}
use Rattle.cube_jobs.specs.declared.job.Job.{Job}
use Rattle.cube_jobs.specs.declared.job.Settled.{Settled}
use Rattle.crossbeam_channel.specs.Claims.{view, IsSeatAt}
use Rattle.crossbeam_channel.specs.Ends.{sends_on, ruled_capacity}
use Rattle.job_board.specs.ChannelRules.{list_in}
use Rattle.job_board.specs.declared.board.Board.{Board}
use Rattle.job_board.specs.declared.channel_view.ChannelView.TheVariants.{Single}
use Rattle.job_board.specs.declared.in_flight.InFlight.TheVariants.{Empty}
use Rattle.job_board.specs.declared.seats.DealerSeat.{DealerSeat}
use Rattle.job_board.specs.declared.seats.WorkerSeat.{WorkerSeat}
use Rattle.job_board.specs.declared.seats.CollectorSeat.{CollectorSeat}

-- how many jobs may wait at this board, and how many results
abbrev pub job_room : Board → ℕ
job_room board = ruled_capacity (sends_on board.job_sender)

abbrev pub result_room : Board → ℕ
result_room board = ruled_capacity (sends_on board.result_sender)

-- the jobs that the dealer put
abbrev pub put_by : DealerSeat → List Job
put_by seat = list_in (view seat.jobs)

-- the jobs that the worker took, stop tickets included
abbrev pub taken_by : WorkerSeat → List Job
taken_by seat = list_in (view seat.jobs)

-- the results that the worker gave
abbrev pub given_by : WorkerSeat → List Settled
given_by seat = list_in (view seat.results)

-- the results that the collector gathered
abbrev pub gathered_by : CollectorSeat → List Settled
gathered_by seat = list_in (view seat.results)

-- the dealer's seat at this board, which has made its workers
pub record IsDealerAt (board : Board) (seat : DealerSeat) : Type 0 where
  pub at : IsSeatAt (sends_on board.job_sender) seat.jobs
  pub knows : view seat.jobs ≡ Single (put_by seat) board.workers []
  pub same : seat.cubes ≡ board.cubes

-- a worker's seat at this board
pub record IsWorkerAt (board : Board) (seat : WorkerSeat) : Type 0 where
  pub jobs_at : IsSeatAt (sends_on board.job_sender) seat.jobs
  pub results_at : IsSeatAt (sends_on board.result_sender) seat.results
  pub same : seat.cubes ≡ board.cubes

-- the collector's seat at this board
pub record IsCollectorAt (board : Board) (seat : CollectorSeat) : Type 0 where
  pub at : IsSeatAt (sends_on board.result_sender) seat.results
  pub knows : view seat.results ≡ Single (gathered_by seat) board.workers []
  pub same : seat.cubes ≡ board.cubes

-- all workers' seats at this board, in the order of their numbers
pub record AreWorkersAt (board : Board) (seats : List WorkerSeat) : Type 0 where
  pub all : length seats ≡ board.workers
  pub each : (number : ℕ) (seat : WorkerSeat) → slice_get seats number ≡ Some seat → IsWorkerAt board seat × (seat.number ≡ number)

-- a worker that has taken and given nothing
pub record IsIdle (seat : WorkerSeat) : Type 0 where
  pub taken : taken_by seat ≡ []
  pub given : given_by seat ≡ []
  pub hand : seat.hand ≡ Empty
