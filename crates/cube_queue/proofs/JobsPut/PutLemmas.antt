-- The order in which jobs and stop tickets are put.
use Rattle.std.proofs.Common.{◌≡◌, ℕ, ◌+◌, ◌<◌, List, [], ◌∷◌, ◌++◌, length, sym, subst}
use Rattle.std.specs.List.{All, AllPairs}
use Rattle.std.proofs.lemmas.List.Elements.{All-nil, All-cons, All-head, All-tail}
use Rattle.cube_jobs.specs.declared.job.Job.{Job}
use Rattle.cube_queue.specs.Participants.{WithStops}
use Rattle.cube_queue.proofs.JobsPut.JobLemmas.{all_below}

-- a prefix of a list
all_front : {X : Type 0} (P : X → Type 0) (front rest : List X) → All P (front ++ rest) → All P front
all_front P [] rest all = All-nil P
all_front P (x ∷ front) rest all = All-cons P x front (All-head P x (front ++ rest) all) (all_front P front rest (All-tail P x (front ++ rest) all))

-- the ticket of the next job is above those of all that were put
pub next_above : (jobs yielded rest put : List Job) (job : Job) → AllPairs (λ (a b : Job). a.ticket < b.ticket) jobs → jobs ≡ yielded ++ job ∷ rest → put ≡ yielded → All (λ (e : Job). e.ticket < job.ticket) put
next_above jobs yielded rest put job rising is so =
    subst
    (All (λ (e : Job). e.ticket < job.ticket))
    (sym so)
    (all_below yielded job rest (subst (AllPairs (λ (a b : Job). a.ticket < b.ticket)) is rising))

-- those that were put are among the jobs
pub put_low : (cubes : ℕ) (jobs yielded rest put : List Job) → All (λ (j : Job). j.ticket < cubes) jobs → jobs ≡ yielded ++ rest → put ≡ yielded → All (λ (j : Job). j.ticket < cubes) put
put_low cubes jobs yielded rest put low is so =
    let small = λ (j : Job). j.ticket < cubes in
    subst (All small) (sym so) (all_front small yielded rest (subst (All small) is low))

-- What was put are these jobs, and then as many stop tickets as this number is past the cubes. All of it is below this number.
pub record ArePutBelow (cubes next : ℕ) (jobs put : List Job) : Type 0 where
  pub dealt : WithStops cubes jobs put
  pub low : All (λ (job : Job). job.ticket < next) put
  pub long : length put + cubes ≡ length jobs + next
