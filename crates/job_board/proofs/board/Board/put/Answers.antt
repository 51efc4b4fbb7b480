use Rattle.std.proofs.Common.{arith, ◌≡◌, ℕ, ◌+◌, ◌<◌, ◌≤◌, Bool, true, false, cond, nat_lt, List, [], ◌∷◌, ◌++◌, length, sym, ◌∙◌, ap, subst, lt-ltb, le-ltb}
use Rattle.std.specs.List.{All}
use Rattle.std.proofs.lemmas.List.{map-append, length-append}
use Rattle.std.proofs.lemmas.List.Elements.{All-map, filter-append}
use Rattle.std.proofs.lemmas.List.Quantifiers.{all_pairs_push}
use Rattle.crossbeam_channel.specs.Claims.{view}
use Rattle.cube_jobs.specs.declared.job.Job.{Job}
use Rattle.job_board.specs.ChannelRules.{list_in, with_item}
use Rattle.job_board.specs.Pairs.{Pair, of_job, of_jobs, below, Rise}
use Rattle.job_board.specs.declared.channel_view.ChannelView.{ChannelView}
use Rattle.job_board.specs.declared.channel_view.ChannelView.TheVariants.{Single}
use Rattle.job_board.proofs.TwoRules.StepLemmas.{puts}
use Rattle.job_board.proofs.board.Board.put.Goals as goal

-- What a seat keeps when its lists grow.

module _ {X : Type 0} where
  -- the single seat's list after an item joined it
  one_more_item : (v w : ChannelView X) (list : List X) (made : ℕ) (joined : List (List X)) (x : X) → v ≡ Single list made joined → w ≡ with_item v x →
      (list_in w ≡ list_in v ++ x ∷ []) × (w ≡ Single (list_in w) made joined)
  one_more_item v w list made joined x is more =
      let whole : w ≡ Single (list ++ x ∷ []) made joined = more ∙ ap (λ (u : ChannelView X). with_item u x) is in
      let mine : list_in w ≡ list ++ x ∷ [] = ap list_in whole in (
        mine ∙ ap (λ (u : ChannelView X). list_in u ++ x ∷ []) (sym is),
        whole ∙ ap (λ (xs : List X). Single xs made joined) (sym mine),
      )

below_more : (cubes : ℕ) (pairs : List Pair) (pair : Pair) → length (below cubes (pairs ++ pair ∷ [])) ≡ length (below cubes pairs) + length (cond (nat_lt pair.0 cubes) (pair ∷ []) [])
below_more cubes pairs pair =
    ap length (filter-append (λ (p : Pair). nat_lt p.0 cubes) pairs (pair ∷ []))
    ∙ length-append (below cubes pairs) (cond (nat_lt pair.0 cubes) (pair ∷ []) [])

one_or_none : (b : Bool) (pair : Pair) (count : ℕ) → cond b (count + 1) count ≡ count + length (cond b (pair ∷ []) [])
one_or_none true pair count = omega arith
one_or_none false pair count = omega arith

-- a job counts where its ticket is below the number of cubes
job_counted : (cubes : ℕ) (before after : List Job) (job : Job) (count : ℕ) (b : Bool) → count ≡ length (below cubes (of_jobs before)) → after ≡ before ++ job ∷ [] → nat_lt job.ticket cubes ≡ b →
    cond b (count + 1) count ≡ length (below cubes (of_jobs after))
job_counted cubes before after job count b so more is =
    let here = below_more cubes (of_jobs before) (of_job job) in
    let one : cond b (count + 1) count ≡ count + length (cond (nat_lt job.ticket cubes) (of_job job ∷ []) []) =
    ap (λ (t : Bool). cond t (count + 1) count) (sym is) ∙ one_or_none (nat_lt job.ticket cubes) (of_job job) count in
    let sum : cond b (count + 1) count ≡ length (below cubes (of_jobs before ++ of_job job ∷ [])) = omega (arith, here, one, so) in
    sum ∙ ap (λ (pairs : List Pair). length (below cubes pairs)) (sym (map-append of_job before (job ∷ []))) ∙ ap (λ (jobs : List Job). length (below cubes (of_jobs jobs))) (sym more)

-- tickets rise where the next is above all before
rises_more : (before after : List Job) (job : Job) → Rise (of_jobs before) → All (λ (earlier : Job). earlier.ticket < job.ticket) before → after ≡ before ++ job ∷ [] → Rise (of_jobs after)
rises_more before after job rise above more =
    let longer : Rise (of_jobs before ++ of_job job ∷ []) =
    all_pairs_push (λ (p q : Pair). p.0 < q.0) (of_jobs before) (of_job job) rise (All-map (λ (p : Pair). p.0 < job.ticket) of_job before above) in
    subst (λ (jobs : List Job). Rise (of_jobs jobs)) (sym more) (subst Rise (sym (map-append of_job before (job ∷ []))) longer)

-- what the dealer put, after a job was put
put_rises : (made : ℕ) (v w : ChannelView Job) (job : Job) → v ≡ Single (list_in v) made [] → w ≡ with_item v job → Rise (of_jobs (list_in v)) →
    All (λ (earlier : Job). earlier.ticket < job.ticket) (list_in v) → Rise (of_jobs (list_in w))
put_rises made v w job is more rise above = rises_more (list_in v) (list_in w) job rise above (one_more_item v w (list_in v) made [] job is more).0

put_job : (cubes made : ℕ) (v w : ChannelView Job) (job : Job) (put next : ℕ) → v ≡ Single (list_in v) made [] → w ≡ with_item v job → put ≡ length (below cubes (of_jobs (list_in v))) →
    next ≡ put + 1 → job.ticket < cubes → next ≡ length (below cubes (of_jobs (list_in w)))
put_job cubes made v w job put next is more so one low =
    one ∙ job_counted cubes (list_in v) (list_in w) job put true so (one_more_item v w (list_in v) made [] job is more).0 (lt-ltb job.ticket cubes low)

put_stop : (cubes made : ℕ) (v w : ChannelView Job) (job : Job) (put : ℕ) → v ≡ Single (list_in v) made [] → w ≡ with_item v job → put ≡ length (below cubes (of_jobs (list_in v))) →
    cubes ≤ job.ticket → put ≡ length (below cubes (of_jobs (list_in w)))
put_stop cubes made v w job put is more so high =
    job_counted cubes (list_in v) (list_in w) job put false so (one_more_item v w (list_in v) made [] job is more).0 (le-ltb job.ticket cubes high)

pub send_as-requires-clause-rule : goal.send_as-requires-clause-rule
send_as-requires-clause-rule g c = puts _ _ _ _ _ _ _ c.requires.seat.knows

pub invariant_of-seat : goal.invariant_of-seat
invariant_of-seat g c =
    let seat = c.args.seat.now in
    let after = view c.send_as.new.pass in
    record {
      counted = put_job seat.cubes c.args.self.now.workers (view seat.jobs) after c.args.job seat.put c.added-next.result c.requires.seat.knows c.in-Ok.ensures.rule seat.counted c.added-next.ensures (omega (arith, c.if-counts.true, c.ticket.ensures));
      rising = put_rises c.args.self.now.workers (view seat.jobs) after c.args.job c.requires.seat.knows c.in-Ok.ensures.rule seat.rising c.requires.above;
    }

pub invariant_of-seat-else-counts : goal.invariant_of-seat-else-counts
invariant_of-seat-else-counts g c =
    let seat = c.args.seat.now in
    let after = view c.send_as.new.pass in
    record {
      counted = put_stop seat.cubes c.args.self.now.workers (view seat.jobs) after c.args.job seat.put c.requires.seat.knows c.in-Ok.ensures.rule seat.counted (omega (arith, c.if-counts.false, c.ticket.ensures));
      rising = put_rises c.args.self.now.workers (view seat.jobs) after c.args.job c.requires.seat.knows c.in-Ok.ensures.rule seat.rising c.requires.above;
    }
