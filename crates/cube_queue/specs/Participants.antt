-- All who take part in a search, before it begins and after it has ended.
use Rattle.std.specs.Prelude.{◌≡◌, ℕ, ◌<◌, ◌≤◌, ℤ, List, [], ◌++◌, map, length, Some, None}
use Rattle.std.specs.List.{All, AllPairs, AllZip, Contains, slice_get}
use Rattle.cube_jobs.specs.declared.job.Job.{Job}
use Rattle.cube_jobs.specs.Results.{AreLeaves}
use Rattle.job_board.specs.declared.seats.WorkerSeat.{WorkerSeat}
use Rattle.job_board.specs.InFlight.{ticket_in}
use Rattle.job_board.specs.Pairs.{of_jobs, below}
use Rattle.job_board.specs.Seats.{put_by, given_by, gathered_by, IsDealerAt, IsCollectorAt, AreWorkersAt}
use Rattle.stop_word.specs.Seats.{SeatValue, AreAllSeats}
use Rattle.cube_queue.specs.Workers.{IsHonest, IsReady, HasWorked}
use Rattle.cube_queue.specs.declared.participants.Participants.{Participants}
use Rattle.cube_queue.specs.declared.participants.Worker.{Worker}
use Rattle.cube_queue.specs.declared.participants.Returned.{Returned}
use Rattle.cube_queue.specs.declared.shared_search.SharedSearch.{SharedSearch}

-- the workers' seats at the board
abbrev pub seats_of : List Worker → List WorkerSeat
seats_of members = map (λ (m : Worker). m.seat) members

-- the workers' seats at the stop word
abbrev pub stops_of : List Worker → List SeatValue
stops_of members = map (λ (m : Worker). m.stop) members

-- one job for each of these leaves, in their order, with its cube, where these are the cubes of all leaves
pub record AreJobsOf (cubes : List (List ℤ)) (which : List ℕ) (jobs : List Job) : Type 0 where
  pub tickets_are : map (λ (job : Job). job.ticket) jobs ≡ which
  pub cubes_are : (job : Job) → Contains jobs job → slice_get cubes job.ticket ≡ Some job.cube

-- these jobs, and then stop tickets, which are past the cubes
abbrev pub WithStops : ℕ → List Job → List Job → Type 0
WithStops cubes jobs put = (stops : List Job) × (put ≡ jobs ++ stops) × All (λ (job : Job). cubes ≤ job.ticket) stops

-- All seats of this shared search, where nothing was put, given or marked yet; and jobs of its cubes, whose tickets rise.
pub record IsCrewAt (site : SharedSearch) (crew : Participants) : Type 0 where
  pub dealer_at : IsDealerAt site.board crew.dealer
  pub none_put : put_by crew.dealer ≡ []
  pub collector_at : IsCollectorAt site.board crew.collector
  pub none_gathered : gathered_by crew.collector ≡ []
  pub few_cubes : site.board.cubes ≤ 1024
  pub few_workers : site.board.workers ≤ 8
  pub rising : AllPairs (λ (a b : Job). a.ticket < b.ticket) crew.jobs.items
  pub low : All (λ (job : Job). job.ticket < site.board.cubes) crew.jobs.items
  pub ready : All (IsReady site) crew.members.items
  pub workers_at : AreWorkersAt site.board (seats_of crew.members.items)
  pub stops_at : AreAllSeats site.word (stops_of crew.members.items)

-- All jobs of the search were put, and then stop tickets; the results are those that were gathered, as many as the jobs; each worker has
-- worked.
pub record HasRun (clauses : List (List ℤ)) (site : SharedSearch) (crew : Participants) (returned : Returned) : Type 0 where
  pub dealer_at : IsDealerAt site.board returned.dealer
  pub dealt : WithStops site.board.cubes crew.jobs.items (put_by returned.dealer)
  pub collector_at : IsCollectorAt site.board returned.collector
  pub results_are : returned.results.items ≡ gathered_by returned.collector
  pub all_gathered : length returned.results.items ≡ length crew.jobs.items
  pub worked : AllZip (HasWorked clauses site) crew.members.items returned.members.items

-- all seats of this shared search, and the results that were gathered, as many as jobs were put
pub record AreAllAt (site : SharedSearch) (returned : Returned) : Type 0 where
  pub dealer_at : IsDealerAt site.board returned.dealer
  pub collector_at : IsCollectorAt site.board returned.collector
  pub workers_at : AreWorkersAt site.board (seats_of returned.members.items)
  pub stops_at : AreAllSeats site.word (stops_of returned.members.items)
  pub results_are : returned.results.items ≡ gathered_by returned.collector
  pub all_gathered : length returned.results.items ≡ length (below site.board.cubes (of_jobs (put_by returned.dealer)))

-- What was put were the jobs of these leaves and then stop tickets, and each worker of which no job is left in flight was honest.
pub record IsHonestRun (clauses cubes : List (List ℤ)) (which : List ℕ) (site : SharedSearch) (returned : Returned) : Type 0 where
  pub asked : AreLeaves cubes which
  pub cubes_are : site.board.cubes ≡ length cubes
  pub few_cubes : length cubes ≤ 1024
  pub dealt : (jobs : List Job) × AreJobsOf cubes which jobs × WithStops (length cubes) jobs (put_by returned.dealer)
  pub honest : All (λ (m : Worker). ticket_in m.seat.hand ≡ None → IsHonest clauses m.stop.knows (given_by m.seat)) returned.members.items
