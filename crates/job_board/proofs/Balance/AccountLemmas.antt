-- If the account's four numbers are equal, jobs put and results gathered weigh the same.
use Rattle.std.proofs.Common.{◌≡◌, ℕ, ◌+◌, Bool, true, false, cond, nat_lt, List, [], ◌∷◌, ◌++◌, map, length, refl, sym, ◌∙◌, ap, arith}
use Rattle.cube_jobs.specs.declared.job.Job.{Job}
use Rattle.cube_jobs.specs.declared.job.Settled.{Settled}
use Rattle.job_board.specs.Merge.{IsMergeOf}
use Rattle.job_board.specs.Pairs.{Pair, of_job, of_result, of_jobs, of_results, below}
use Rattle.job_board.specs.InFlight.{held_in}
use Rattle.job_board.specs.Seats.{taken_by, given_by}
use Rattle.job_board.specs.Accounts.{total}
use Rattle.job_board.specs.declared.seats.WorkerSeat.{WorkerSeat}
use Rattle.job_board.proofs.Balance.TotalLemmas.{total-append, total-plus, total_same, total_zero, total-map, merge_total}

-- what a pair weighs, where only those below this number count
abbrev pub only : ℕ → (Pair → ℕ) → Pair → ℕ
only cubes h p = cond (nat_lt p.0 cubes) (h p) 0

abbrev pub one : Pair → ℕ
one p = 1

only_zero : (b : Bool) (n : ℕ) → cond {A = ℕ} b 1 0 ≡ 0 → cond {A = ℕ} b n 0 ≡ 0
only_zero true n none = absurd (omega (arith, none))
only_zero false n none = refl

pairs_zero : (cubes : ℕ) (h : Pair → ℕ) (p : Pair) → only cubes one p ≡ 0 → only cubes h p ≡ 0
pairs_zero cubes h p none = only_zero (nat_lt p.0 cubes) (h p) none

one_below : (b : Bool) (p : Pair) (rest : List Pair) (sum : ℕ) → length rest ≡ sum → length (cond b (p ∷ rest) rest) ≡ cond b 1 0 + sum
one_below true p rest sum is = omega (arith, is)
one_below false p rest sum is = omega (arith, is)

-- a count is a sum
pub total_below : (cubes : ℕ) (pairs : List Pair) → length (below cubes pairs) ≡ total (only cubes one) pairs
total_below cubes [] = refl
total_below cubes (p ∷ pairs) = one_below (nat_lt p.0 cubes) p (below cubes pairs) (total (only cubes one) pairs) (total_below cubes pairs)

abbrev pub job_weight : ℕ → (Pair → ℕ) → Job → ℕ
job_weight cubes h job = only cubes h (of_job job)

abbrev pub result_weight : ℕ → (Pair → ℕ) → Settled → ℕ
result_weight cubes h settled = only cubes h (of_result settled)

abbrev pub hand_weight : ℕ → (Pair → ℕ) → WorkerSeat → ℕ
hand_weight cubes h seat = total (only cubes h) (held_in seat.hand)

abbrev pub taken_weight : ℕ → (Pair → ℕ) → WorkerSeat → ℕ
taken_weight cubes h seat = total (job_weight cubes h) (taken_by seat)

abbrev pub given_weight : ℕ → (Pair → ℕ) → WorkerSeat → ℕ
given_weight cubes h seat = total (result_weight cubes h) (given_by seat)

pub jobs_counted : (cubes : ℕ) (jobs : List Job) → length (below cubes (of_jobs jobs)) ≡ total (job_weight cubes one) jobs
jobs_counted cubes jobs = total_below cubes (of_jobs jobs) ∙ total-map (only cubes one) of_job jobs

pub results_counted : (cubes : ℕ) (results : List Settled) → length (below cubes (of_results results)) ≡ total (result_weight cubes one) results
results_counted cubes results = total_below cubes (of_results results) ∙ total-map (only cubes one) of_result results

-- by the seat rule
seat_weighs : (cubes : ℕ) (h : Pair → ℕ) (seat : WorkerSeat) → taken_weight cubes h seat ≡ given_weight cubes h seat + hand_weight cubes h seat
seat_weighs cubes h seat =
    sym (total-map (only cubes h) of_job (taken_by seat))
    ∙ ap (total (only cubes h)) seat.answers
    ∙ total-append (only cubes h) (of_results (given_by seat)) (held_in seat.hand)
    ∙ ap (λ (n : ℕ). n + hand_weight cubes h seat) (total-map (only cubes h) of_result (given_by seat))

pub seats_weigh : (cubes : ℕ) (h : Pair → ℕ) (workers : List WorkerSeat) → total (taken_weight cubes h) workers ≡ total (given_weight cubes h) workers + total (hand_weight cubes h) workers
seats_weigh cubes h workers =
    total_same (taken_weight cubes h) (λ (seat : WorkerSeat). given_weight cubes h seat + hand_weight cubes h seat) (seat_weighs cubes h) workers
    ∙ total-plus (given_weight cubes h) (hand_weight cubes h) workers

-- by the job rule
put_weighs : (cubes : ℕ) (h : Pair → ℕ) (put front queue : List Job) (workers : List WorkerSeat) → IsMergeOf (map taken_by workers) front → put ≡ front ++ queue →
    total (job_weight cubes h) put ≡ total (taken_weight cubes h) workers + total (job_weight cubes h) queue
put_weighs cubes h put front queue workers taken is =
    ap (total (job_weight cubes h)) is
    ∙ total-append (job_weight cubes h) front queue
    ∙ ap (λ (n : ℕ). n + total (job_weight cubes h) queue)
    (merge_total (job_weight cubes h) (map taken_by workers) front taken ∙ total-map (λ (part : List Job). total (job_weight cubes h) part) taken_by workers)

-- by the result rule
pub got_weighs : (cubes : ℕ) (h : Pair → ℕ) (got left : List Settled) (workers : List WorkerSeat) → IsMergeOf (map given_by workers) (got ++ left) →
    total (result_weight cubes h) got + total (result_weight cubes h) left ≡ total (given_weight cubes h) workers
got_weighs cubes h got left workers given =
    sym (total-append (result_weight cubes h) got left)
    ∙ merge_total (result_weight cubes h) (map given_by workers) (got ++ left) given
    ∙ total-map (λ (part : List Settled). total (result_weight cubes h) part) given_by workers

-- What is known of the counts of jobs and results, as weights: what was put was taken or is left, what was taken was given or is in flight,
-- what was given was gathered or is left.
pub record AddUp (cubes : ℕ) (put queue : List Job) (got left : List Settled) (workers : List WorkerSeat) : Type 0 where
  pub taken_or_left : total (job_weight cubes one) put ≡ total (taken_weight cubes one) workers + total (job_weight cubes one) queue
  pub given_or_held : total (taken_weight cubes one) workers ≡ total (given_weight cubes one) workers + total (hand_weight cubes one) workers
  pub got_or_left : total (result_weight cubes one) got + total (result_weight cubes one) left ≡ total (given_weight cubes one) workers

pub add_up : (cubes : ℕ) (put front queue : List Job) (got left : List Settled) (workers : List WorkerSeat) →
    IsMergeOf (map taken_by workers) front → put ≡ front ++ queue → IsMergeOf (map given_by workers) (got ++ left) → AddUp cubes put queue got left workers
add_up cubes put front queue got left workers taken is given = record {
  taken_or_left = put_weighs cubes one put front queue workers taken is;
  given_or_held = seats_weigh cubes one workers;
  got_or_left = got_weighs cubes one got left workers given;
}

pub taken_counted : (cubes : ℕ) (workers : List WorkerSeat) → total (λ (seat : WorkerSeat). length (below cubes (of_jobs (taken_by seat)))) workers ≡ total (taken_weight cubes one) workers
taken_counted cubes workers =
    total_same (λ (seat : WorkerSeat). length (below cubes (of_jobs (taken_by seat)))) (taken_weight cubes one) (λ (seat : WorkerSeat). jobs_counted cubes (taken_by seat)) workers

pub given_counted : (cubes : ℕ) (workers : List WorkerSeat) → total (λ (seat : WorkerSeat). length (below cubes (of_results (given_by seat)))) workers ≡ total (given_weight cubes one) workers
given_counted cubes workers =
    total_same (λ (seat : WorkerSeat). length (below cubes (of_results (given_by seat)))) (given_weight cubes one) (λ (seat : WorkerSeat). results_counted cubes (given_by seat)) workers

-- however pairs are weighed, the jobs put and the results gathered weigh the same
pub settles : (cubes : ℕ) (put front queue : List Job) (got left : List Settled) (workers : List WorkerSeat) →
    IsMergeOf (map taken_by workers) front → put ≡ front ++ queue → IsMergeOf (map given_by workers) (got ++ left) →
    total (λ (seat : WorkerSeat). length (below cubes (of_jobs (taken_by seat)))) workers ≡ length (below cubes (of_jobs put)) →
    total (λ (seat : WorkerSeat). length (below cubes (of_results (given_by seat)))) workers ≡ length (below cubes (of_jobs put)) →
    length (below cubes (of_results got)) ≡ length (below cubes (of_jobs put)) →
    (h : Pair → ℕ) → total (job_weight cubes h) put ≡ total (result_weight cubes h) got
settles cubes put front queue got left workers taken is given all_taken all_given all_got h =
    let t : total (taken_weight cubes one) workers ≡ total (job_weight cubes one) put =
    sym (taken_counted cubes workers) ∙ all_taken ∙ jobs_counted cubes put in
    let g : total (given_weight cubes one) workers ≡ total (job_weight cubes one) put =
    sym (given_counted cubes workers) ∙ all_given ∙ jobs_counted cubes put in
    let c : total (result_weight cubes one) got ≡ total (job_weight cubes one) put = sym (results_counted cubes got) ∙ all_got ∙ jobs_counted cubes put in
    let sums = add_up cubes put front queue got left workers taken is given in
    let q0 : total (job_weight cubes one) queue ≡ 0 = omega (arith, sums.taken_or_left, t) in
    let h0 : total (hand_weight cubes one) workers ≡ 0 = omega (arith, sums.given_or_held, t, g) in
    let l0 : total (result_weight cubes one) left ≡ 0 = omega (arith, sums.got_or_left, g, c) in
    let q = total_zero (job_weight cubes one) (job_weight cubes h) (λ (job : Job) none. pairs_zero cubes h (of_job job) none) queue q0 in
    let hands =
    total_zero (hand_weight cubes one) (hand_weight cubes h) (λ (seat : WorkerSeat) none. total_zero (only cubes one) (only cubes h) (pairs_zero cubes h) (held_in seat.hand) none) workers h0 in
    let l = total_zero (result_weight cubes one) (result_weight cubes h) (λ (settled : Settled) none. pairs_zero cubes h (of_result settled) none) left l0 in
    omega (arith, put_weighs cubes h put front queue workers taken is, seats_weigh cubes h workers, got_weighs cubes h got left workers given, q, hands, l)
