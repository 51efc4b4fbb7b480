-- What a board's account says.
use Rattle.std.specs.Prelude.{◌≡◌, ◌≢◌, ℕ, ◌+◌, ◌<◌, List, [], ◌∷◌, ◌++◌, map, length}
use Rattle.std.specs.List.{AllPairs, Contains}
use Rattle.cube_jobs.specs.declared.job.Job.{Job}
use Rattle.cube_jobs.specs.declared.job.Settled.{Settled}
use Rattle.job_board.specs.Merge.{IsMergeOf}
use Rattle.job_board.specs.Pairs.{of_job, of_result, of_jobs, of_results, below}
use Rattle.job_board.specs.Seats.{put_by, taken_by, given_by, gathered_by}
use Rattle.job_board.specs.declared.account.Account.{Account}
use Rattle.job_board.specs.declared.channel_view.ChannelView.{ChannelView}
use Rattle.job_board.specs.declared.channel_view.ChannelView.TheVariants.{Single}
use Rattle.job_board.specs.declared.seats.DealerSeat.{DealerSeat}
use Rattle.job_board.specs.declared.seats.WorkerSeat.{WorkerSeat}
use Rattle.job_board.specs.declared.seats.CollectorSeat.{CollectorSeat}

-- what this function gives of the items, added up
abbrev pub total : {X : Type 0} → (X → ℕ) → List X → ℕ
total h [] = 0
total h (x ∷ xs) = h x + total h xs

-- how many jobs a worker took, and how many results it gave, stop tickets left out
abbrev pub taken_below : ℕ → WorkerSeat → ℕ
taken_below cubes seat = length (below cubes (of_jobs (taken_by seat)))

abbrev pub given_below : ℕ → WorkerSeat → ℕ
given_below cubes seat = length (below cubes (of_results (given_by seat)))

-- the numbers are the lengths of the seats' lists, stop tickets left out
pub record IsAccountOf (cubes : ℕ) (dealer : DealerSeat) (workers : List WorkerSeat) (collector : CollectorSeat) (account : Account) : Type 0 where
  pub put_is : account.put ≡ length (below cubes (of_jobs (put_by dealer)))
  pub taken_is : account.taken ≡ total (taken_below cubes) workers
  pub given_is : account.given ≡ total (given_below cubes) workers
  pub gathered_is : account.gathered ≡ length (below cubes (of_results (gathered_by collector)))

-- Both first passes have taken in these workers' seats, and these are what they know now, and the seats' counts.
pub record AreJoined (cubes workers : ℕ) (put : List Job) (got : List Settled) (seats : List WorkerSeat) (v : ChannelView Job) (w : ChannelView Settled) (taken given : ℕ) : Type 0 where
  pub jobs_known : v ≡ Single put workers (map taken_by seats)
  pub results_known : w ≡ Single got workers (map given_by seats)
  pub taken_is : taken ≡ total (taken_below cubes) seats
  pub given_is : given ≡ total (given_below cubes) seats

-- the job rule, as it ends: what was put is some merge of what the workers took, followed by the jobs that no worker took
abbrev pub WereDealt : DealerSeat → List WorkerSeat → Type 0
WereDealt dealer workers = (front : List Job) × (queue : List Job) × IsMergeOf (map taken_by workers) front × (put_by dealer ≡ front ++ queue)

-- the result rule, as it ends: what was gathered, followed by the results that were never gathered, is some merge of what the workers gave
abbrev pub WereGathered : CollectorSeat → List WorkerSeat → Type 0
WereGathered collector workers = (queue : List Settled) × IsMergeOf (map given_by workers) (gathered_by collector ++ queue)

-- the four numbers are equal
abbrev pub IsBalanced : Account → Type 0
IsBalanced account = (account.taken ≡ account.put) × (account.given ≡ account.put) × (account.gathered ≡ account.put)

-- The results are those of the jobs put whose ticket is below this number, each once, and of no other.
pub record AreAnswersTo (cubes : ℕ) (put : List Job) (got : List Settled) : Type 0 where
  pub each : (settled : Settled) → Contains got settled → (settled.ticket < cubes) × ((job : Job) × Contains put job × (of_job job ≡ of_result settled))
  pub every : (job : Job) → Contains put job → job.ticket < cubes → (settled : Settled) × Contains got settled × (of_result settled ≡ of_job job)
  pub once : AllPairs (λ (s t : Settled). s.ticket ≢ t.ticket) got
