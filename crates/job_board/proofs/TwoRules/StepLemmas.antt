-- What the calls ask of the two rules, where the view of a pass is known to be that of a worker or of the single seat.
use Rattle.std.proofs.Common.{◌≡◌, ℕ, List, ◌∷◌, length, sym, subst}
use Rattle.std.specs.Prelude.{⊤, Result, Ok, Err, MatchResult}
use Rattle.crossbeam_channel.specs.Fifo.{Pushes, Pops, Learns, Forks, Merges, Held}
use Rattle.job_board.specs.ChannelRules.{MeetsJobRule, MeetsResultRule, with_item, with_worker_made, worker_made, with_worker_joined, PutAddsUp, GotAddsUp}
use Rattle.job_board.specs.declared.channel_view.ChannelView.{ChannelView}
use Rattle.job_board.specs.declared.channel_view.ChannelView.TheVariants.{Single, Worker, Spent}
use Rattle.job_board.proofs.TwoRules.JobRuleLemmas as dealt
use Rattle.job_board.proofs.TwoRules.ResultRuleLemmas as gathered

module _ {X : Type 0} where
  -- the dealer puts a job
  pub puts : (room pass : ℕ) (v : ChannelView X) (list : List X) (made : ℕ) (joined : List (List X)) (x : X) → v ≡ Single list made joined →
      Pushes (MeetsJobRule {X = X}) room pass v x (λ w. w ≡ with_item v x) × Learns (MeetsJobRule {X = X}) pass v (λ items. ⊤)
  puts room pass v list made joined x is =
      (subst (λ (u : ChannelView X). Pushes (MeetsJobRule {X = X}) room pass u x (λ w. w ≡ with_item u x)) (sym is) (dealt.pushes room pass list made joined x), λ items views rule there. tt)

  -- a worker takes a job
  pub takes : (pass : ℕ) (v : ChannelView X) (number : ℕ) (list : List X) → v ≡ Worker number list →
      Pops (MeetsJobRule {X = X}) pass v (λ x w. w ≡ with_item v x) × Learns (MeetsJobRule {X = X}) pass v (λ items. ⊤)
  takes pass v number list is =
      (subst (λ (u : ChannelView X). Pops (MeetsJobRule {X = X}) pass u (λ x w. w ≡ with_item u x)) (sym is) (dealt.pops pass number list), λ items views rule there. tt)

  -- a worker gives a result
  pub gives : (room pass : ℕ) (v : ChannelView X) (number : ℕ) (list : List X) (x : X) → v ≡ Worker number list →
      Pushes (MeetsResultRule {X = X}) room pass v x (λ w. w ≡ with_item v x) × Learns (MeetsResultRule {X = X}) pass v (λ items. ⊤)
  gives room pass v number list x is =
      (subst (λ (u : ChannelView X). Pushes (MeetsResultRule {X = X}) room pass u x (λ w. w ≡ with_item u x)) (sym is) (gathered.pushes room pass number list x), λ items views rule there. tt)

  -- the collector gathers a result
  pub gathers : (pass : ℕ) (v : ChannelView X) (list : List X) (made : ℕ) (joined : List (List X)) → v ≡ Single list made joined →
      Pops (MeetsResultRule {X = X}) pass v (λ x w. w ≡ with_item v x) × Learns (MeetsResultRule {X = X}) pass v (λ items. ⊤)
  gathers pass v list made joined is =
      (subst (λ (u : ChannelView X). Pops (MeetsResultRule {X = X}) pass u (λ x w. w ≡ with_item u x)) (sym is) (gathered.pops pass list made joined), λ items views rule there. tt)

  -- a worker's pass is cut off
  pub cuts_jobs : (pass : ℕ) (v : ChannelView X) (list : List X) (made : ℕ) (joined : List (List X)) → v ≡ Single list made joined →
      Forks (MeetsJobRule {X = X}) pass v (with_worker_made v) (worker_made v)
  cuts_jobs pass v list made joined is =
      subst (λ (u : ChannelView X). Forks (MeetsJobRule {X = X}) pass u (with_worker_made u) (worker_made u)) (sym is) (dealt.forks pass list made joined)

  pub cuts_results : (pass : ℕ) (v : ChannelView X) (list : List X) (made : ℕ) (joined : List (List X)) → v ≡ Single list made joined →
      Forks (MeetsResultRule {X = X}) pass v (with_worker_made v) (worker_made v)
  cuts_results pass v list made joined is =
      subst (λ (u : ChannelView X). Forks (MeetsResultRule {X = X}) pass u (with_worker_made u) (worker_made u)) (sym is) (gathered.forks pass list made joined)

  -- a worker's pass is joined
  pub joins_jobs : (pass : ℕ) (v : ChannelView X) (list : List X) (made : ℕ) (joined : List (List X)) (other : ℕ) (w : ChannelView X) (number : ℕ) (taken : List X) →
      v ≡ Single list made joined → w ≡ Worker number taken → number ≡ length joined → Merges (MeetsJobRule {X = X}) pass v other w (with_worker_joined v w) Spent
  joins_jobs pass v list made joined other w number taken is worker next =
      subst (λ (u : ChannelView X). Merges (MeetsJobRule {X = X}) pass u other w (with_worker_joined u w) Spent) (sym is)
      (subst (λ (u : ChannelView X). Merges (MeetsJobRule {X = X}) pass (Single list made joined) other u (with_worker_joined (Single list made joined) u) Spent) (sym worker) (dealt.merges pass list made joined other number taken next))

  pub joins_results : (pass : ℕ) (v : ChannelView X) (list : List X) (made : ℕ) (joined : List (List X)) (other : ℕ) (w : ChannelView X) (number : ℕ) (given : List X) →
      v ≡ Single list made joined → w ≡ Worker number given → number ≡ length joined → Merges (MeetsResultRule {X = X}) pass v other w (with_worker_joined v w) Spent
  joins_results pass v list made joined other w number given is worker next =
      subst (λ (u : ChannelView X). Merges (MeetsResultRule {X = X}) pass u other w (with_worker_joined u w) Spent) (sym is)
      (subst (λ (u : ChannelView X). Merges (MeetsResultRule {X = X}) pass (Single list made joined) other u (with_worker_joined (Single list made joined) u) Spent) (sym worker) (gathered.merges pass list made joined other number given next))

  -- the last receive on a channel
  pub ends_jobs : (pass : ℕ) (v : ChannelView X) (list : List X) (made : ℕ) (joined : List (List X)) → v ≡ Single list made joined →
      Pops (MeetsJobRule {X = X}) pass v (λ x w. (w ≡ Spent) × ((queue : List X) × PutAddsUp v (x ∷ queue))) × Learns (MeetsJobRule {X = X}) pass v (PutAddsUp v)
  ends_jobs pass v list made joined is =
      (subst (λ (u : ChannelView X). Pops (MeetsJobRule {X = X}) pass u (λ x w. (w ≡ Spent) × ((queue : List X) × PutAddsUp u (x ∷ queue)))) (sym is) (dealt.ends pass list made joined), dealt.learns pass v)

  pub ends_results : (pass : ℕ) (v : ChannelView X) (list : List X) (made : ℕ) (joined : List (List X)) → v ≡ Single list made joined →
      Pops (MeetsResultRule {X = X}) pass v (λ x w. (w ≡ Spent) × ((queue : List X) × GotAddsUp v (x ∷ queue))) × Learns (MeetsResultRule {X = X}) pass v (GotAddsUp v)
  ends_results pass v list made joined is =
      (subst (λ (u : ChannelView X). Pops (MeetsResultRule {X = X}) pass u (λ x w. (w ≡ Spent) × ((queue : List X) × GotAddsUp u (x ∷ queue)))) (sym is) (gathered.ends pass list made joined), gathered.learns pass v)

  -- whatever the last receive answers, it has shown the rule
  pub jobs_shown : {E : Type 0} (answer : Result X E) (v w : ChannelView X) →
      MatchResult answer (λ x. (w ≡ Spent) × ((queue : List X) × PutAddsUp v (x ∷ queue))) (λ e. (w ≡ v) × Held 0 (PutAddsUp v)) → (queue : List X) × PutAddsUp v queue
  jobs_shown (Ok x) v w told = (x ∷ told.1.0, told.1.1)
  jobs_shown (Err e) v w told = (told.1.0, told.1.2)

  pub results_shown : {E : Type 0} (answer : Result X E) (v w : ChannelView X) →
      MatchResult answer (λ x. (w ≡ Spent) × ((queue : List X) × GotAddsUp v (x ∷ queue))) (λ e. (w ≡ v) × Held 0 (GotAddsUp v)) → (queue : List X) × GotAddsUp v queue
  results_shown (Ok x) v w told = (x ∷ told.1.0, told.1.1)
  results_shown (Err e) v w told = (told.1.0, told.1.2)
