-- Each worker that was made and is not joined yet has a pass, from step to step.
use Rattle.std.proofs.Common.{◌≡◌, ◌≢◌, ℕ, ◌+◌, ◌<◌, ◌≤◌, Option, List, [], ◌∷◌, ◌++◌, length, set, refl, sym, ◌∙◌, ap, subst, ⊎_elim, arith}
use mathlib.Core.Option.{some, some-injective}
use lib.ListN.{get_elem?}
use Rattle.std.proofs.lemmas.Bool.{cases_eq, cases_lt}
use Rattle.std.proofs.lemmas.List.{length-append}
use Rattle.atomic_table.proofs.Lists.{set_else, at_longer, at_last}
use Rattle.job_board.specs.Merge.{Marked}
use Rattle.job_board.specs.ChannelRules.{Fits, HasWorker, HasAllWorkers}
use Rattle.job_board.specs.declared.channel_view.ChannelView.{ChannelView}
use Rattle.job_board.specs.declared.channel_view.ChannelView.TheVariants.{Single, Worker, Spent}
use Rattle.job_board.proofs.TwoRules.ViewLemmas.{Each, each_set, each_more, each_one, set_mine}

module _ {X : Type 0} where
  -- whatever the single seat knows is so
  abbrev pub AreThere : List (ChannelView X) → Type 0
  AreThere views = Each (λ pass v. HasAllWorkers views v) views

  not_both : (list : List X) (made : ℕ) (joined : List (List X)) (k : ℕ) (own : List X) → Single list made joined ≡ Worker k own → ⊥
  not_both list made joined k own e = absurd (cc)

  same_worker : (j k : ℕ) (list own : List X) → Worker j list ≡ Worker k own → j ≡ k
  same_worker j k list own e = cc

  -- a worker's pass is not the single seat's
  apart_from : (views : List (ChannelView X)) (pass : ℕ) (list : List X) (made : ℕ) (joined : List (List X)) (k other : ℕ) (own : List X) → get_elem? views pass ≡ some (Single list made joined) →
      get_elem? views other ≡ some (Worker k own) → other ≢ pass
  apart_from views pass list made joined k other own there at same =
      not_both list made joined k own (some-injective (Single list made joined) (Worker k own) (sym there ∙ ap (get_elem? views) (sym same) ∙ at))

  -- the single seat's pass changes
  kept_by_single : (views : List (ChannelView X)) (pass : ℕ) (list : List X) (made : ℕ) (joined : List (List X)) (w : ChannelView X) (k : ℕ) → get_elem? views pass ≡ some (Single list made joined) →
      HasWorker views k → HasWorker (set views pass w) k
  kept_by_single views pass list made joined w k there has =
      (has.0, has.1, set_else views pass has.0 w (apart_from views pass list made joined k has.0 has.1 there has.2) ∙ has.2)

  -- a worker's pass changes, and is that worker's
  kept_by_worker : (views : List (ChannelView X)) (pass number : ℕ) (list after : List X) (k : ℕ) → get_elem? views pass ≡ some (Worker number list) →
      HasWorker views k → HasWorker (set views pass (Worker number after)) k
  kept_by_worker views pass number list after k there has =
      ⊎_elim
      (λ (same : has.0 ≡ pass).
      let number_is : number ≡ k = same_worker number k list has.1 (some-injective (Worker number list) (Worker k has.1) (sym there ∙ ap (get_elem? views) (sym same) ∙ has.2)) in
      subst (λ (n : ℕ). HasWorker (set views pass (Worker number after)) n) number_is (pass, after, set_mine views pass (Worker number list) (Worker number after) there))
      (λ (apart : has.0 ≢ pass). (has.0, has.1, set_else views pass has.0 (Worker number after) apart ∙ has.2))
      (cases_eq has.0 pass)

  all_kept : (before after : List (ChannelView X)) → ((k : ℕ) → HasWorker before k → HasWorker after k) → (v : ChannelView X) → HasAllWorkers before v → HasAllWorkers after v
  all_kept before after keeps (Single list made joined) has = λ k late early. keeps k (has k late early)
  all_kept before after keeps (Worker number list) has = tt
  all_kept before after keeps Spent has = tt

  -- the single seat puts or gets an item
  pub single_there : (views : List (ChannelView X)) (pass : ℕ) (list after : List X) (made : ℕ) (joined : List (List X)) → get_elem? views pass ≡ some (Single list made joined) → AreThere views →
      AreThere (set views pass (Single after made joined))
  single_there views pass list after made joined there before =
      let w = Single after made joined in
      each_set (λ p v. HasAllWorkers views v) (λ p v. HasAllWorkers (set views pass w) v) views pass w before
      (λ p v apart has. all_kept views (set views pass w) (λ k h. kept_by_single views pass list made joined w k there h) v has)
      (λ k late early. kept_by_single views pass list made joined w k there (before pass (Single list made joined) there k late early))

  -- the single seat's pass is spent
  pub spent_there : (views : List (ChannelView X)) (pass : ℕ) (list : List X) (made : ℕ) (joined : List (List X)) → get_elem? views pass ≡ some (Single list made joined) → AreThere views →
      AreThere (set views pass Spent)
  spent_there views pass list made joined there before =
      each_set (λ p v. HasAllWorkers views v) (λ p v. HasAllWorkers (set views pass Spent) v) views pass Spent before
      (λ p v apart has. all_kept views (set views pass Spent) (λ k h. kept_by_single views pass list made joined Spent k there h) v has)
      tt

  -- a worker takes or gives an item
  pub worker_there : (views : List (ChannelView X)) (pass number : ℕ) (list after : List X) → get_elem? views pass ≡ some (Worker number list) → AreThere views →
      AreThere (set views pass (Worker number after))
  worker_there views pass number list after there before =
      let w = Worker number after in
      each_set (λ p v. HasAllWorkers views v) (λ p v. HasAllWorkers (set views pass w) v) views pass w before
      (λ p v apart has. all_kept views (set views pass w) (λ k h. kept_by_worker views pass number list after k there h) v has)
      tt

  -- a worker's pass is cut off
  pub cut_there : (views : List (ChannelView X)) (pass : ℕ) (list : List X) (made : ℕ) (joined : List (List X)) → get_elem? views pass ≡ some (Single list made joined) → AreThere views →
      AreThere (set views pass (Single list (made + 1) joined) ++ Worker made [] ∷ [])
  cut_there views pass list made joined there before =
      let left = Single list (made + 1) joined in
      let front = set views pass left in
      let after = front ++ Worker made [] ∷ [] in
      let keeps : (k : ℕ) → HasWorker views k → HasWorker after k =
      λ k h. (let kept = kept_by_single views pass list made joined left k there h in (kept.0, kept.1, at_longer front (Worker made [] ∷ []) kept.0 (Worker k kept.1) kept.2)) in
      let new : HasWorker after made = (length front, [], at_last front (Worker made []) (length front) refl) in
      let mine : HasAllWorkers after left =
      λ k late early.
      ⊎_elim
      (λ (low : k < made). keeps k (before pass (Single list made joined) there k late low))
      (λ (high : made ≤ k). let same : made ≡ k = omega (arith, early, high) in subst (λ (n : ℕ). HasWorker after n) same new)
      (cases_lt k made) in
      each_more (λ p v. HasAllWorkers after v) front (Worker made [])
      (each_set (λ p v. HasAllWorkers views v) (λ p v. HasAllWorkers after v) views pass left before (λ p v apart has. all_kept views after keeps v has) mine)
      tt

  -- a new channel, of which the single seat has the one pass
  pub first_there : AreThere (Single [] 0 [] ∷ [])
  first_there = each_one (λ p v. HasAllWorkers {X = X} (Single [] 0 [] ∷ []) v) (Single [] 0 []) (λ k late early. absurd (omega (arith, early)))

module _ {X : Type 0} (single : ℕ) (pass_of : ℕ → Option ℕ) (log : List (Marked X)) (own : List X) where
  -- another pass than the single seat's
  other_there : (after : List (ChannelView X)) (pass : ℕ) (v : ChannelView X) → pass ≢ single → Fits single pass_of log own pass v → HasAllWorkers after v
  other_there after pass (Single list made joined) apart fits = absurd (apart fits.0)
  other_there after pass (Worker number list) apart fits = tt
  other_there after pass Spent apart fits = tt

  -- the next worker's pass is joined
  pub join_there : (views : List (ChannelView X)) (pass : ℕ) (list : List X) (made : ℕ) (joined : List (List X)) (other number : ℕ) (taken : List X) → Each (Fits single pass_of log own) views →
      AreThere views → get_elem? views pass ≡ some (Single list made joined) → other ≢ pass → get_elem? (set views pass (Single list made (joined ++ taken ∷ []))) other ≡ some (Worker number taken) →
      number ≡ length joined → AreThere (set (set views pass (Single list made (joined ++ taken ∷ []))) other Spent)
  join_there views pass list made joined other number taken each before there apart there' next =
      let both = Single list made (joined ++ taken ∷ []) in
      let front = set views pass both in
      let after = set front other Spent in
      let mine = each pass (Single list made joined) there in
      let theirs : get_elem? views other ≡ some (Worker number taken) = sym (set_else views pass other both apart) ∙ there' in
      let long = length-append joined (taken ∷ []) in
      let kept : HasAllWorkers after both =
      λ k late early. (
      let has = before pass (Single list made joined) there k (omega (arith, late, long)) early in
      let far = apart_from views pass list made joined k has.0 has.1 there has.2 in
      let away : has.0 ≢ other = λ e. (
      let same : number ≡ k = same_worker number k taken has.1 (some-injective (Worker number taken) (Worker k has.1) (sym theirs ∙ ap (get_elem? views) (sym e) ∙ has.2)) in
      omega (arith, same, next, late, long)) in
      (has.0, has.1, set_else front other has.0 Spent away ∙ set_else views pass has.0 both far ∙ has.2)) in
      each_set (λ p v. HasAllWorkers after v) (λ p v. HasAllWorkers after v) front other Spent
      (each_set (Fits single pass_of log own) (λ p v. HasAllWorkers after v) views pass both each (λ p v elsewhere fits. other_there after p v (λ e. elsewhere (e ∙ sym mine.0)) fits) kept)
      (λ p v elsewhere has. has)
      tt
