-- What the steps on the job channel ask of its rule.
use Rattle.std.proofs.Common.{◌≡◌, ℕ, ◌+◌, List, [], ◌∷◌, ◌++◌, length, None, refl, sym, ◌∙◌, ap, subst}
use Rattle.std.proofs.lemmas.List.{append_assoc}
use Rattle.crossbeam_channel.specs.Fifo.{Pushes, Pops, Learns, Forks, Merges}
use Rattle.job_board.specs.Merge.{unmarked}
use Rattle.job_board.specs.ChannelRules.{Fits, MeetsJobRule, PutAddsUp}
use Rattle.job_board.specs.declared.channel_view.ChannelView.{ChannelView}
use Rattle.job_board.specs.declared.channel_view.ChannelView.TheVariants.{Single, Worker, Spent}
use Rattle.job_board.proofs.TwoRules.MergeLemmas.{mark_of, marked_same, unmarked_more}
use Rattle.job_board.proofs.TwoRules.ViewLemmas.{each_set, each_one}
use Rattle.job_board.proofs.TwoRules.PassLemmas.{one_more, logged, all_parts, cut_each, join_each, first_fits}
use Rattle.job_board.proofs.TwoRules.WorkerLemmas.{single_there, worker_there, spent_there, cut_there, join_there, first_there}

module _ {X : Type 0} where
  -- the dealer puts a job
  pub pushes : (room pass : ℕ) (list : List X) (made : ℕ) (joined : List (List X)) (x : X) →
      Pushes (MeetsJobRule {X = X}) room pass (Single list made joined) x (λ w. w ≡ Single (list ++ x ∷ []) made joined)
  pushes room pass list made joined x items views short rule there =
      let one = rule.0 in
      let seat = rule.1 in
      let log = rule.2 in
      let mine = rule.3 pass (Single list made joined) there in
      let more = unmarked log ++ (items ++ x ∷ []) in
      let longer : list ++ x ∷ [] ≡ more = ap (λ (l : List X). l ++ x ∷ []) mine.1 ∙ append_assoc (unmarked log) items (x ∷ []) in
      let w = Single (list ++ x ∷ []) made joined in (
        w,
        (
          one,
          seat,
          log,
          each_set (Fits one seat log (unmarked log ++ items)) (Fits one seat log more) views pass w rule.3
              (λ p v apart fits. one_more one seat log (unmarked log ++ items) more p v (λ e. apart (e ∙ sym mine.0)) fits)
              (mine.0, longer, mine.2, mine.3, mine.4),
          single_there views pass list (list ++ x ∷ []) made joined there rule.4,
        ),
        refl,
      )

  -- a worker takes a job
  pub pops : (pass number : ℕ) (list : List X) → Pops (MeetsJobRule {X = X}) pass (Worker number list) (λ x w. w ≡ Worker number (list ++ x ∷ []))
  pops pass number list x items views rule there =
      let one = rule.0 in
      let seat = rule.1 in
      let log = rule.2 in
      let mine = rule.3 pass (Worker number list) there in
      let log' = log ++ mark_of number x ∷ [] in
      let same : unmarked log ++ (x ∷ items) ≡ unmarked log' ++ items = sym (ap (λ (l : List X). l ++ items) (unmarked_more number log x) ∙ append_assoc (unmarked log) (x ∷ []) items) in
      let w = Worker number (list ++ x ∷ []) in (
        w,
        (
          one,
          seat,
          log',
          each_set (Fits one seat log (unmarked log ++ (x ∷ items))) (Fits one seat log' (unmarked log' ++ items)) views pass w rule.3
              (λ p v apart fits. subst (λ (all : List X). Fits one seat log' all p v) same (logged one seat log (unmarked log ++ (x ∷ items)) number pass x mine.0 p v apart fits))
              (mine.0, ap (λ (l : List X). l ++ x ∷ []) mine.1 ∙ sym (marked_same number log x)),
          worker_there views pass number list (list ++ x ∷ []) there rule.4,
        ),
        refl,
      )

  -- what the dealer learns, once all workers are joined
  pub learns : (pass : ℕ) (v : ChannelView X) → Learns (MeetsJobRule {X = X}) pass v (PutAddsUp v)
  learns pass (Single put made joined) items views rule there =
      let mine = rule.3 pass (Single put made joined) there in
      λ all. (unmarked rule.2, (rule.2, refl, all_parts rule.0 rule.1 rule.2 (unmarked rule.2 ++ items) pass put made joined mine all), mine.1)
  learns pass (Worker number list) items views rule there = tt
  learns pass Spent items views rule there = tt

  pub forks : (pass : ℕ) (list : List X) (made : ℕ) (joined : List (List X)) → Forks (MeetsJobRule {X = X}) pass (Single list made joined) (Single list (made + 1) joined) (Worker made [])
  forks pass list made joined items views rule there =
      (rule.0, _, rule.2, cut_each rule.0 rule.1 rule.2 (unmarked rule.2 ++ items) views pass list made joined rule.3 there, cut_there views pass list made joined there rule.4)

  pub merges : (pass : ℕ) (list : List X) (made : ℕ) (joined : List (List X)) (other number : ℕ) (taken : List X) → number ≡ length joined →
      Merges (MeetsJobRule {X = X}) pass (Single list made joined) other (Worker number taken) (Single list made (joined ++ taken ∷ [])) Spent
  merges pass list made joined other number taken next items views rule there apart there' =
      let all = unmarked rule.2 ++ items in (
        rule.0,
        _,
        rule.2,
        join_each rule.0 rule.1 rule.2 all views pass list made joined other number taken rule.3 there apart there' next,
        join_there rule.0 rule.1 rule.2 all views pass list made joined other number taken rule.3 rule.4 there apart there' next,
      )

  -- the dealer's last receive, after which its pass is spent
  pub ends : (pass : ℕ) (list : List X) (made : ℕ) (joined : List (List X)) →
      Pops (MeetsJobRule {X = X}) pass (Single list made joined) (λ x w. (w ≡ Spent) × ((queue : List X) × PutAddsUp (Single list made joined) (x ∷ queue)))
  ends pass list made joined x items views rule there =
      let one = rule.0 in
      let seat = rule.1 in
      let log = rule.2 in
      let mine = rule.3 pass (Single list made joined) there in (
        Spent,
        (
          one,
          seat,
          log,
          each_set (Fits one seat log (unmarked log ++ (x ∷ items))) (Fits one seat log (unmarked log ++ items)) views pass Spent rule.3
              (λ p v apart fits. one_more one seat log (unmarked log ++ (x ∷ items)) (unmarked log ++ items) p v (λ e. apart (e ∙ sym mine.0)) fits)
              tt,
          spent_there views pass list made joined there rule.4,
        ),
        (refl, (items, learns pass (Single list made joined) (x ∷ items) views rule there)),
      )

  -- a new channel, of which the dealer has the one pass
  pub begins : MeetsJobRule {X = X} [] (Single [] 0 [] ∷ [])
  begins = (0, (λ k. None), [], each_one (Fits 0 (λ k. None) [] []) (Single [] 0 []) (first_fits 0), first_there)
