-- How many jobs were put, and how many results were gathered.
use Rattle.std.proofs.Common.{◌≡◌, ℕ, suc, ◌+◌, ◌<◌, ◌≤◌, Bool, true, false, cond, nat_lt, List, [], ◌∷◌, ◌++◌, length, refl, ◌∙◌, ap, lt-ltb, le-ltb, arith}
use Rattle.std.specs.List.{All}
use Rattle.std.proofs.lemmas.List.{length-append}
use Rattle.std.proofs.lemmas.List.Elements.{All-head, All-tail}
use Rattle.cube_jobs.specs.declared.job.Job.{Job}
use Rattle.cube_jobs.specs.declared.job.Settled.{Settled}
use Rattle.job_board.specs.Pairs.{Pair, of_job, of_result, of_jobs, of_results, below}
use Rattle.cube_queue.specs.Participants.{WithStops}

-- jobs that came before one that was not put are fewer
pub put_fewer : (jobs yielded rest put : List Job) (job : Job) → jobs ≡ yielded ++ job ∷ rest → put ≡ yielded → length put < length jobs
put_fewer jobs yielded rest put job is so = omega (arith, ap length is, ap length so, length-append yielded (job ∷ rest))

module _ (cubes : ℕ) where
  one_counts : (p : Pair) (rest : List Pair) → nat_lt p.0 cubes ≡ true → length (cond (nat_lt p.0 cubes) (p ∷ rest) rest) ≡ suc (length rest)
  one_counts p rest low = ap (λ (b : Bool). length (cond b (p ∷ rest) rest)) low

  one_is_left_out : (p : Pair) (rest : List Pair) → nat_lt p.0 cubes ≡ false → length (cond (nat_lt p.0 cubes) (p ∷ rest) rest) ≡ length rest
  one_is_left_out p rest high = ap (λ (b : Bool). length (cond b (p ∷ rest) rest)) high

  stops_left_out : (stops : List Job) → All (λ (job : Job). cubes ≤ job.ticket) stops → length (below cubes (of_jobs stops)) ≡ 0
  stops_left_out [] past = refl
  stops_left_out (stop ∷ stops) past =
      let high = All-head (λ (job : Job). cubes ≤ job.ticket) stop stops past in
      one_is_left_out (of_job stop) (below cubes (of_jobs stops)) (le-ltb stop.ticket cubes high) ∙ stops_left_out stops (All-tail (λ (job : Job). cubes ≤ job.ticket) stop stops past)

  jobs_then_stops : (jobs stops : List Job) → All (λ (job : Job). job.ticket < cubes) jobs → All (λ (job : Job). cubes ≤ job.ticket) stops → length (below cubes (of_jobs (jobs ++ stops))) ≡ length jobs
  jobs_then_stops [] stops low past = stops_left_out stops past
  jobs_then_stops (job ∷ jobs) stops low past =
      let small = All-head (λ (j : Job). j.ticket < cubes) job jobs low in
      one_counts (of_job job) (below cubes (of_jobs (jobs ++ stops))) (lt-ltb job.ticket cubes small) ∙ ap suc (jobs_then_stops jobs stops (All-tail (λ (j : Job). j.ticket < cubes) job jobs low) past)

  -- stop tickets do not count
  pub jobs_counted : (jobs put : List Job) → All (λ (job : Job). job.ticket < cubes) jobs → WithStops cubes jobs put → length (below cubes (of_jobs put)) ≡ length jobs
  jobs_counted jobs put low with_stops = ap (λ (l : List Job). length (below cubes (of_jobs l))) with_stops.1 ∙ jobs_then_stops jobs with_stops.0 low with_stops.2

  -- each result counts
  pub results_counted : (results : List Settled) → All (λ (settled : Settled). settled.ticket < cubes) results → length (below cubes (of_results results)) ≡ length results
  results_counted [] low = refl
  results_counted (settled ∷ results) low =
      let small = All-head (λ (s : Settled). s.ticket < cubes) settled results low in
      one_counts (of_result settled) (below cubes (of_results results)) (lt-ltb settled.ticket cubes small) ∙ ap suc (results_counted results (All-tail (λ (s : Settled). s.ticket < cubes) settled results low))
