-- The jobs of the leaves that are asked for: their tickets rise and are below the number of cubes.
use Rattle.std.proofs.Common.{ℕ, ◌<◌, ℤ, List, ◌∷◌, ◌++◌, length, get_or, sym, subst}
use Rattle.std.specs.List.{All, AllPairs, Contains}
use Rattle.std.proofs.lemmas.List.Elements.{Contains-get_or}
use Rattle.trace_semantics.proofs.ElementLemmas.{to_map}
use Rattle.cube_jobs.specs.declared.job.Job.{Job}
use Rattle.cube_jobs.specs.Results.{AreLeaves}
use Rattle.cube_queue.specs.Participants.{AreJobsOf}
use Rattle.cube_queue.proofs.PairLemmas.{pairs_from_map, pairs_before}

abbrev pub ticket_of : Job → ℕ
ticket_of job = job.ticket

pub jobs_rise : (cubes : List (List ℤ)) (which : List ℕ) (jobs : List Job) → AreLeaves cubes which → AreJobsOf cubes which jobs → AllPairs (λ (a b : Job). a.ticket < b.ticket) jobs
jobs_rise cubes which jobs asked are =
    pairs_from_map ticket_of (λ (x y : ℕ). x < y) jobs (subst (λ (tickets : List ℕ). AllPairs (λ (x y : ℕ). x < y) tickets) (sym are.tickets_are) asked.rising)

-- the leaf of a job is asked for
pub job_asked : (cubes : List (List ℤ)) (which : List ℕ) (jobs : List Job) → AreJobsOf cubes which jobs → (job : Job) → Contains jobs job → Contains which job.ticket
job_asked cubes which jobs are job among = subst (λ (tickets : List ℕ). Contains tickets job.ticket) are.tickets_are (to_map ticket_of jobs job among)

pub jobs_low : (cubes : List (List ℤ)) (which : List ℕ) (jobs : List Job) → AreLeaves cubes which → AreJobsOf cubes which jobs → All (λ (job : Job). job.ticket < length cubes) jobs
jobs_low cubes which jobs asked are i d within =
    let job = get_or jobs i d in
    asked.each job.ticket (job_asked cubes which jobs are job (Contains-get_or jobs i d within))

-- the jobs before one of them have lower tickets
pub all_below : (before : List Job) (job : Job) (rest : List Job) → AllPairs (λ (a b : Job). a.ticket < b.ticket) (before ++ job ∷ rest) → All (λ (earlier : Job). earlier.ticket < job.ticket) before
all_below before job rest rising = pairs_before (λ (a b : Job). a.ticket < b.ticket) before job rest rising
