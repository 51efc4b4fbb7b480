-- What the steps on the result channel ask of its rule.
use Rattle.std.proofs.Common.{◌≡◌, ℕ, ◌+◌, List, [], ◌∷◌, ◌++◌, length, None, refl, sym, ◌∙◌, ap}
use Rattle.std.proofs.lemmas.List.{append_assoc}
use Rattle.crossbeam_channel.specs.Fifo.{Pushes, Pops, Learns, Forks, Merges}
use Rattle.job_board.specs.ChannelRules.{Fits, MeetsResultRule, GotAddsUp}
use Rattle.job_board.specs.declared.channel_view.ChannelView.{ChannelView}
use Rattle.job_board.specs.declared.channel_view.ChannelView.TheVariants.{Single, Worker, Spent}
use Rattle.job_board.proofs.TwoRules.MergeLemmas.{mark_of, marked_same, unmarked_more}
use Rattle.job_board.proofs.TwoRules.ViewLemmas.{each_set, each_one}
use Rattle.job_board.proofs.TwoRules.PassLemmas.{one_more, logged, all_parts, cut_each, join_each, first_fits}
use Rattle.job_board.proofs.TwoRules.WorkerLemmas.{single_there, worker_there, spent_there, cut_there, join_there, first_there}

module _ {X : Type 0} where
  pub forks : (pass : ℕ) (list : List X) (made : ℕ) (joined : List (List X)) → Forks (MeetsResultRule {X = X}) pass (Single list made joined) (Single list (made + 1) joined) (Worker made [])
  forks pass list made joined items views rule there =
      (rule.0, _, rule.2, rule.3, rule.4, cut_each rule.0 rule.1 rule.2 rule.3 views pass list made joined rule.5 there, cut_there views pass list made joined there rule.6)

  pub merges : (pass : ℕ) (list : List X) (made : ℕ) (joined : List (List X)) (other number : ℕ) (given : List X) → number ≡ length joined →
      Merges (MeetsResultRule {X = X}) pass (Single list made joined) other (Worker number given) (Single list made (joined ++ given ∷ [])) Spent
  merges pass list made joined other number given next items views rule there apart there' = (
    rule.0,
    _,
    rule.2,
    rule.3,
    rule.4,
    join_each rule.0 rule.1 rule.2 rule.3 views pass list made joined other number given rule.5 there apart there' next,
    join_there rule.0 rule.1 rule.2 rule.3 views pass list made joined other number given rule.5 rule.6 there apart there' next,
  )

  -- a worker gives a result
  pub pushes : (room pass number : ℕ) (list : List X) (x : X) → Pushes (MeetsResultRule {X = X}) room pass (Worker number list) x (λ w. w ≡ Worker number (list ++ x ∷ []))
  pushes room pass number list x items views short rule there =
      let one = rule.0 in
      let seat = rule.1 in
      let log = rule.2 in
      let got = rule.3 in
      let mine = rule.5 pass (Worker number list) there in
      let log' = log ++ mark_of number x ∷ [] in
      let w = Worker number (list ++ x ∷ []) in (
        w,
        (
          one,
          seat,
          log',
          got,
          unmarked_more number log x ∙ ap (λ (l : List X). l ++ x ∷ []) rule.4 ∙ append_assoc got items (x ∷ []),
          each_set (Fits one seat log got) (Fits one seat log' got) views pass w rule.5 (logged one seat log got number pass x mine.0)
              (mine.0, ap (λ (l : List X). l ++ x ∷ []) mine.1 ∙ sym (marked_same number log x)),
          worker_there views pass number list (list ++ x ∷ []) there rule.6,
        ),
        refl,
      )

  -- the collector gathers a result
  pub pops : (pass : ℕ) (list : List X) (made : ℕ) (joined : List (List X)) → Pops (MeetsResultRule {X = X}) pass (Single list made joined) (λ x w. w ≡ Single (list ++ x ∷ []) made joined)
  pops pass list made joined x items views rule there =
      let one = rule.0 in
      let seat = rule.1 in
      let log = rule.2 in
      let got = rule.3 in
      let mine = rule.5 pass (Single list made joined) there in
      let more = got ++ x ∷ [] in
      let w = Single (list ++ x ∷ []) made joined in (
        w,
        (
          one,
          seat,
          log,
          more,
          rule.4 ∙ sym (append_assoc got (x ∷ []) items),
          each_set (Fits one seat log got) (Fits one seat log more) views pass w rule.5
              (λ p v apart fits. one_more one seat log got more p v (λ e. apart (e ∙ sym mine.0)) fits)
              (mine.0, ap (λ (l : List X). l ++ x ∷ []) mine.1, mine.2, mine.3, mine.4),
          single_there views pass list (list ++ x ∷ []) made joined there rule.6,
        ),
        refl,
      )

  -- what the collector learns, once all workers are joined
  pub learns : (pass : ℕ) (v : ChannelView X) → Learns (MeetsResultRule {X = X}) pass v (GotAddsUp v)
  learns pass (Single got made joined) items views rule there =
      let mine = rule.5 pass (Single got made joined) there in
      λ all. (rule.2, ap (λ (l : List X). l ++ items) mine.1 ∙ sym rule.4, all_parts rule.0 rule.1 rule.2 rule.3 pass got made joined mine all)
  learns pass (Worker number list) items views rule there = tt
  learns pass Spent items views rule there = tt

  -- the collector's last receive, after which its pass is spent
  pub ends : (pass : ℕ) (list : List X) (made : ℕ) (joined : List (List X)) →
      Pops (MeetsResultRule {X = X}) pass (Single list made joined) (λ x w. (w ≡ Spent) × ((queue : List X) × GotAddsUp (Single list made joined) (x ∷ queue)))
  ends pass list made joined x items views rule there =
      let one = rule.0 in
      let seat = rule.1 in
      let log = rule.2 in
      let got = rule.3 in
      let mine = rule.5 pass (Single list made joined) there in
      let more = got ++ x ∷ [] in (
        Spent,
        (
          one,
          seat,
          log,
          more,
          rule.4 ∙ sym (append_assoc got (x ∷ []) items),
          each_set (Fits one seat log got) (Fits one seat log more) views pass Spent rule.5
              (λ p v apart fits. one_more one seat log got more p v (λ e. apart (e ∙ sym mine.0)) fits)
              tt,
          spent_there views pass list made joined there rule.6,
        ),
        (refl, (items, learns pass (Single list made joined) (x ∷ items) views rule there)),
      )

  -- a new channel, of which the collector has the one pass
  pub begins : MeetsResultRule {X = X} [] (Single [] 0 [] ∷ [])
  begins = (0, (λ k. None), [], [], refl, each_one (Fits 0 (λ k. None) [] []) (Single [] 0 []) (first_fits 0), first_there)
