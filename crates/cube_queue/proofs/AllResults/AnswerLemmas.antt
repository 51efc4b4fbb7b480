-- What follows once all workers have ended: their results are those of the leaves that were asked for.
use Rattle.std.proofs.Common.{◌≡◌, ◌≢◌, ℕ, ◌<◌, ◌≤◌, ℤ, List, Some, map, length, sym, ◌∙◌, ap, subst, inl, inr, arith}
use Rattle.std.specs.List.{All, Contains, slice_get}
use Rattle.std.proofs.lemmas.List.Elements.{All-contains, Contains-append_cases, Contains-append_left}
use Rattle.trace_semantics.proofs.ElementLemmas.{to_map, from_map, from_flat_map}
use Rattle.cube_jobs.specs.declared.job.Job.{Job}
use Rattle.cube_jobs.specs.declared.job.Settled.{Settled}
use Rattle.cube_jobs.specs.declared.outcome.Outcome.TheVariants.{Skipped}
use Rattle.cube_jobs.specs.Results.{AreLeaves, AreResultsOf, HasModelBelow}
use Rattle.job_board.specs.Merge.{IsMergeOf}
use Rattle.job_board.specs.Pairs.{Pair}
use Rattle.job_board.specs.Accounts.{AreAnswersTo}
use Rattle.stop_word.specs.declared.views.View.{View}
use Rattle.stop_word.specs.WordRule.{nothing, least_of, marks_in}
use Rattle.stop_word.proofs.LeastLemmas.{least_among}
use Rattle.cube_queue.specs.Workers.{IsHonest}
use Rattle.cube_queue.specs.Participants.{AreJobsOf, WithStops}
use Rattle.cube_queue.proofs.PairLemmas.{pairs_to_map}
use Rattle.cube_queue.proofs.AllResults.PartLemmas.{merged_part, part_merged, part_of, of_part}
use Rattle.cube_queue.proofs.JobsPut.JobLemmas.{ticket_of, job_asked}

abbrev ticket_in : Settled → ℕ
ticket_in settled = settled.ticket

-- a job below the number of cubes is no stop ticket
job_put : (cubes : ℕ) (jobs put : List Job) → WithStops cubes jobs put → (job : Job) → Contains put job → job.ticket < cubes → Contains jobs job
job_put cubes jobs put (stops, is, past) job among low =
    elim (Contains-append_cases jobs stops job (subst (λ (l : List Job). Contains l job) is among)) [
      | inl here ↦ here
      | inr stop ↦ absurd (let high : cubes ≤ job.ticket = All-contains (λ (j : Job). cubes ≤ j.ticket) stops job past stop in omega (arith, low, high))
    ]

module _
    (cubes : List (List ℤ)) (which : List ℕ) (jobs put : List Job) (got : List Settled)
    (asked : AreLeaves cubes which) (are : AreJobsOf cubes which jobs) (with_stops : WithStops (length cubes) jobs put) (answers : AreAnswersTo (length cubes) put got)
  where
    each_leaf : (settled : Settled) → Contains got settled → Contains which settled.ticket × (slice_get cubes settled.ticket ≡ Some settled.cube)
    each_leaf settled among =
        let (low, (job, there, same)) = answers.each settled among in
        let ticket : job.ticket ≡ settled.ticket = ap (λ (p : Pair). p.0) same in
        let cube : job.cube ≡ settled.cube = ap (λ (p : Pair). p.1) same in
        let here = job_put (length cubes) jobs put with_stops job there (subst (λ (n : ℕ). n < length cubes) (sym ticket) low) in (
          subst (λ (n : ℕ). Contains which n) ticket (job_asked cubes which jobs are job here),
          ap (slice_get cubes) (sym ticket) ∙ are.cubes_are job here ∙ ap Some cube,
        )

    every_leaf : (leaf : ℕ) → Contains which leaf → Contains (map ticket_in got) leaf
    every_leaf leaf among =
        let (job, here, is) = from_map ticket_of jobs leaf (subst (λ (tickets : List ℕ). Contains tickets leaf) (sym are.tickets_are) among) in
        let there : Contains put job = subst (λ (l : List Job). Contains l job) (sym with_stops.1) (Contains-append_left jobs with_stops.0 job here) in
        let (settled, found, same) = answers.every job there (subst (λ (n : ℕ). n < length cubes) (sym is) (asked.each leaf among)) in
        let ticket : settled.ticket ≡ leaf = ap (λ (p : Pair). p.0) same ∙ is in
        subst (λ (n : ℕ). Contains (map ticket_in got) n) ticket (to_map ticket_in got settled found)

    -- they are all results, if skipped ones were rightly skipped
    pub are_results : (clauses : List (List ℤ)) → ((settled : Settled) → Contains got settled → settled.outcome ≡ Skipped → HasModelBelow clauses got settled.ticket) → AreResultsOf clauses cubes which got
    are_results clauses skipped = record {
      each = each_leaf;
      every = every_leaf;
      once = pairs_to_map ticket_in (λ (x y : ℕ). x ≢ y) got answers.once;
      skipped = skipped;
    }

-- A skipped result was given by a worker that was shown a mark below it. The word at the end is no higher, and some worker marked it,
-- who gave a model with that ticket; and what was given was gathered.
module _
    {M : Type 0} (clauses : List (List ℤ)) (given : M → List Settled) (knows : M → View) (members : List M) (got : List Settled) (word : ℕ)
    (honest : All (λ (m : M). IsHonest clauses (knows m) (given m)) members) (merge : IsMergeOf (map given members) got)
    (word_is : word ≡ least_of (marks_in (map knows members))) (shown : All (λ (v : View). word ≤ v.least) (map knows members))
  where
    giver : (settled : Settled) → Contains got settled → (m : M) × Contains members m × Contains (given m) settled
    giver settled among = let (k, inside) = merged_part (map given members) got merge settled among in part_of given members k settled inside

    was_gathered : (m : M) → Contains members m → (settled : Settled) → Contains (given m) settled → Contains got settled
    was_gathered m there settled inside = let (k, part) = of_part given members m settled there inside in part_merged (map given members) got merge k settled part

    honest_one : (m : M) → Contains members m → IsHonest clauses (knows m) (given m)
    honest_one m there = All-contains (λ (n : M). IsHonest clauses (knows n) (given n)) members m honest there

    word_below : (settled : Settled) → Contains got settled → settled.outcome ≡ Skipped → word < settled.ticket
    word_below settled among skipped =
        let (m, there, inside) = giver settled among in
        let low : (knows m).least < settled.ticket = (honest_one m there).skipped settled inside skipped in
        let most : word ≤ (knows m).least = All-contains (λ (v : View). word ≤ v.least) (map knows members) (knows m) shown (to_map knows members m there) in
        omega (arith, low, most)

    marker : word ≢ nothing → (m : M) × Contains members m × Contains (knows m).marks word
    marker some =
        let marked = least_among (marks_in (map knows members)) (λ none. some (word_is ∙ none)) in
        let (v, there, inside) = from_flat_map (λ (v : View). v.marks) (map knows members) word (subst (λ (n : ℕ). Contains (marks_in (map knows members)) n) (sym word_is) marked) in
        let (m, here, same) = from_map knows members v there in
        (m, here, subst (λ (w : View). Contains w.marks word) (sym same) inside)

    pub model_below : (settled : Settled) → Contains got settled → settled.ticket < nothing → settled.outcome ≡ Skipped → HasModelBelow clauses got settled.ticket
    model_below settled among small skipped =
        let below = word_below settled among skipped in
        let (m, there, marked) = marker (λ none. absurd (omega (arith, below, small, none))) in
        let (lower, inside, ticket, model) = (honest_one m there).marked word marked in
        record { lower = lower; among = was_gathered m there lower inside; below = omega (arith, below, ticket); model = model }
