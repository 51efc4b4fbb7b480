-- Jobs and results as pairs of a ticket and a cube.
use Rattle.std.specs.Prelude.{ℕ, ◌<◌, ℤ, List, map, nat_lt}
use Rattle.std.specs.List.{AllPairs, filter}
use Rattle.cube_jobs.specs.declared.job.Job.{Job}
use Rattle.cube_jobs.specs.declared.job.Settled.{Settled}

-- a ticket and a cube
abbrev pub Pair : Type 0
Pair = ℕ × List ℤ

-- the pair of a job
abbrev pub of_job : Job → Pair
of_job job = (job.ticket, job.cube)

-- the pair of the job that a result settles
abbrev pub of_result : Settled → Pair
of_result settled = (settled.ticket, settled.cube)

-- the pairs of these jobs, in their order
abbrev pub of_jobs : List Job → List Pair
of_jobs jobs = map of_job jobs

-- the pairs of these results, in their order
abbrev pub of_results : List Settled → List Pair
of_results results = map of_result results

-- those whose ticket is below this number: all but the stop tickets, where it is the number of cubes
abbrev pub below : ℕ → List Pair → List Pair
below cubes pairs = filter (λ (p : Pair). nat_lt p.0 cubes) pairs

-- each ticket is below all later ones
abbrev pub Rise : List Pair → Type 0
Rise pairs = AllPairs (λ (p q : Pair). p.0 < q.0) pairs
