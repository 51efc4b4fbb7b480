-- What the two rules say in a state in which the single seat is there.
use Rattle.std.proofs.Common.{◌≡◌, ℕ, ◌<◌, ◌≤◌, Option, List, [], ◌++◌, map, length, slice_index_or, refl, sym, ◌∙◌, ap, ⊎_elim, arith}
use Rattle.std.specs.List.{range_with_len}
use mathlib.Core.Option.{some}
use lib.ListN.{get_elem?}
use Rattle.std.proofs.lemmas.Bool.{cases_lt}
use Rattle.std.proofs.lemmas.List.{get_or_past}
use Rattle.std.proofs.lemmas.List.FromFn.{get_or-map-range_with_len, length-map-range_with_len}
use Rattle.job_board.specs.Merge.{Marked, marked, unmarked}
use Rattle.job_board.specs.ChannelRules.{Fits, MeetsJobRule, MeetsResultRule, AreWorkerLists, PutIsMerge, GotIsMerge}
use Rattle.job_board.specs.declared.channel_view.ChannelView.{ChannelView}
use Rattle.job_board.specs.declared.channel_view.ChannelView.TheVariants.{Single, Worker}
use Rattle.job_board.proofs.TwoRules.ViewLemmas.{Each}
use Rattle.job_board.proofs.TwoRules.WorkerLemmas.{AreThere}

module _ {X : Type 0} where
  -- the list of each worker made
  abbrev lists_of : List (Marked X) → ℕ → List (List X)
  lists_of log made = map (λ (k : ℕ). marked k log) (range_with_len 0 made)

  list_at : (log : List (Marked X)) (made k : ℕ) → k < made → slice_index_or (lists_of log made) k [] ≡ marked k log
  list_at log made k low = get_or-map-range_with_len (λ (j : ℕ). marked j log) 0 made k k [] low (omega arith)

module _ {X : Type 0} (single : ℕ) (pass_of : ℕ → Option ℕ) (log : List (Marked X)) (own : List X) where
  are_lists : (views : List (ChannelView X)) (pass : ℕ) (list : List X) (made : ℕ) (joined : List (List X)) → Each (Fits single pass_of log own) views → AreThere views →
      get_elem? views pass ≡ some (Single list made joined) → AreWorkerLists X views made joined (lists_of log made)
  are_lists views pass list made joined each before there =
      let mine = each pass (Single list made joined) there in
      record {
        all = length-map-range_with_len (λ (j : ℕ). marked j log) 0 made;
        joined_are = λ k early. (let few = mine.4 in list_at log made k (omega (arith, early, few)) ∙ (mine.3 k early).1);
        others_are = λ k late early.
            (let has = before pass (Single list made joined) there k late early in
            let theirs = each has.0 (Worker k has.1) has.2 in
            (has.0, has.2 ∙ ap (λ (l : List X). some (Worker k l)) (theirs.1 ∙ sym (list_at log made k early))));
      }

  is_merge : (views : List (ChannelView X)) (pass : ℕ) (list : List X) (made : ℕ) (joined : List (List X)) → Each (Fits single pass_of log own) views →
      get_elem? views pass ≡ some (Single list made joined) → (k : ℕ) → marked k log ≡ slice_index_or (lists_of log made) k []
  is_merge views pass list made joined each there k =
      let mine = each pass (Single list made joined) there in
      let long : length (lists_of log made) ≡ made = length-map-range_with_len (λ (j : ℕ). marked j log) 0 made in
      ⊎_elim
      (λ (low : k < made). sym (list_at log made k low))
      (λ (high : made ≤ k). (mine.2 k high).1 ∙ sym (get_or_past (lists_of log made) k [] (omega (arith, long, high))))
      (cases_lt k made)

module _ {X : Type 0} where
  pub put_is_merge : (queue : List X) (views : List (ChannelView X)) → MeetsJobRule queue views → PutIsMerge queue views
  put_is_merge queue views rule pass made put joined there =
      let log = rule.2 in
      let all = unmarked log ++ queue in (
        lists_of log made,
        unmarked log,
        are_lists rule.0 rule.1 log all views pass put made joined rule.3 rule.4 there,
        (log, refl, is_merge rule.0 rule.1 log all views pass put made joined rule.3 there),
        (rule.3 pass (Single put made joined) there).1,
      )

  pub got_is_merge : (queue : List X) (views : List (ChannelView X)) → MeetsResultRule queue views → GotIsMerge queue views
  got_is_merge queue views rule pass made got joined there =
      let log = rule.2 in
      let mine = rule.5 pass (Single got made joined) there in (
        lists_of log made,
        are_lists rule.0 rule.1 log rule.3 views pass got made joined rule.5 rule.6 there,
        (log, ap (λ (l : List X). l ++ queue) mine.1 ∙ sym rule.4, is_merge rule.0 rule.1 log rule.3 views pass got made joined rule.5 there),
      )
