-- A worker's pass is cut off that of the single seat, and joined into it again.
use Rattle.std.proofs.Common.{◌≡◌, ◌≢◌, ℕ, ◌+◌, ◌<◌, ◌≤◌, List, [], ◌∷◌, ◌++◌, length, set, slice_index_or, Bool, cond, Option, Some, None, eq-eqb, ne_eqb, refl, sym, ◌∙◌, ap, subst, ⊎_elim, arith, ◌==◌}
use mathlib.Core.Option.{some}
use lib.ListN.{get_elem?}
use Rattle.std.proofs.lemmas.Bool.{cases_lt}
use Rattle.std.proofs.lemmas.List.{length-append, length-set, get_or_past, get_or_append_left, get_or-append-add}
use Rattle.atomic_table.proofs.Lists.{set_else}
use Rattle.job_board.specs.Merge.{Marked, marked}
use Rattle.job_board.specs.ChannelRules.{Fits}
use Rattle.job_board.specs.declared.channel_view.ChannelView.{ChannelView}
use Rattle.job_board.specs.declared.channel_view.ChannelView.TheVariants.{Single, Worker, Spent}
use Rattle.job_board.proofs.TwoRules.MergeLemmas.{mark_of, marked_other}
use Rattle.job_board.proofs.TwoRules.ViewLemmas.{Each, each_set, each_more}

pub some_same : (a b : ℕ) → Some a ≡ Some b → a ≡ b
some_same a b e = cc

pub none_some : (a : ℕ) → None ≡ Some a → ⊥
none_some a e = cc

-- the worker k has this seat, or none
abbrev pub with_seat : (ℕ → Option ℕ) → ℕ → Option ℕ → ℕ → Option ℕ
with_seat seat k new j = cond (j == k) new (seat j)

pub seat_same : (seat : ℕ → Option ℕ) (k : ℕ) (new : Option ℕ) → with_seat seat k new k ≡ new
seat_same seat k new = ap (λ (b : Bool). cond b new (seat k)) (eq-eqb k k refl)

pub seat_other : (seat : ℕ → Option ℕ) (k : ℕ) (new : Option ℕ) (j : ℕ) → j ≢ k → with_seat seat k new j ≡ seat j
seat_other seat k new j apart = ap (λ (b : Bool). cond b new (seat j)) (ne_eqb j k apart)

module _ {X : Type 0} where
  -- only the single seat's list may change with what it put or got
  pub one_more : (one : ℕ) (seat : ℕ → Option ℕ) (log : List (Marked X)) (all more : List X) (pass : ℕ) (v : ChannelView X) → pass ≢ one → Fits one seat log all pass v → Fits one seat log more pass v
  one_more one seat log all more pass (Single list made joined) apart fits = absurd (apart fits.0)
  one_more one seat log all more pass (Worker number list) apart fits = fits
  one_more one seat log all more pass Spent apart fits = tt

module _ {X : Type 0} where
  -- the first pass of a channel
  pub first_fits : (one : ℕ) → Fits {X = X} one (λ k. None) [] [] one (Single [] 0 [])
  first_fits one = (refl, refl, (λ k late. (refl, refl)), (λ k early. absurd (omega arith)), omega arith)

module _ {X : Type 0} (one : ℕ) (seat : ℕ → Option ℕ) (log : List (Marked X)) (all : List X) where
  -- another pass, where the worker of this one took or gave an item
  pub logged : (number id : ℕ) (x : X) → seat number ≡ Some id → (pass : ℕ) (v : ChannelView X) → pass ≢ id → Fits one seat log all pass v → Fits one seat (log ++ mark_of number x ∷ []) all pass v
  logged number id x here pass (Single list made joined) apart fits = (
    fits.0,
    fits.1,
    λ k late. (let h = fits.2 k late in (h.0, marked_other k number log x (λ e. none_some id (sym h.0 ∙ ap seat (sym e) ∙ here)) ∙ h.1)),
    λ k early. (let h = fits.3 k early in (h.0, marked_other k number log x (λ e. none_some id (sym h.0 ∙ ap seat (sym e) ∙ here)) ∙ h.1)),
    fits.4,
  )
  logged number id x here pass (Worker j list) apart fits =
      (fits.0, fits.1 ∙ sym (marked_other j number log x (λ e. apart (some_same pass id (sym fits.0 ∙ ap seat (sym e) ∙ here)))))
  logged number id x here pass Spent apart fits = tt

  -- where all workers are joined, their lists are the parts of the log
  pub all_parts : (pass : ℕ) (list : List X) (made : ℕ) (joined : List (List X)) → Fits one seat log all pass (Single list made joined) → length joined ≡ made → (k : ℕ) → marked k log ≡ slice_index_or joined k []
  all_parts pass list made joined fits whole k =
      ⊎_elim
      (λ (low : k < length joined). (fits.3 k low).1)
      (λ (high : length joined ≤ k). (fits.2 k (omega (arith, high, whole))).1 ∙ sym (get_or_past joined k [] high))
      (cases_lt k (length joined))

  -- another pass, where a worker without a seat gets one
  seated : (k new pass : ℕ) (v : ChannelView X) → seat k ≡ None → pass ≢ one → Fits one seat log all pass v → Fits one (with_seat seat k (Some new)) log all pass v
  seated k new pass (Single list made joined) none apart fits = absurd (apart fits.0)
  seated k new pass (Worker j list) none apart fits = (seat_other seat k (Some new) j (λ e. none_some pass (sym none ∙ ap seat (sym e) ∙ fits.0)) ∙ fits.0, fits.1)
  seated k new pass Spent none apart fits = tt

  pub cut_each : (views : List (ChannelView X)) (pass : ℕ) (list : List X) (made : ℕ) (joined : List (List X)) → Each (Fits one seat log all) views → get_elem? views pass ≡ some (Single list made joined) →
      Each (Fits one (with_seat seat made (Some (length views))) log all) (set views pass (Single list (made + 1) joined) ++ Worker made [] ∷ [])
  cut_each views pass list made joined each there =
      let mine = each pass (Single list made joined) there in
      let free = mine.2 made (omega arith) in
      let new = length views in
      let seat' = with_seat seat made (Some new) in
      let left = Single list (made + 1) joined in
      let long : length (set views pass left) ≡ new = length-set views pass left in
      each_more (Fits one seat' log all) (set views pass left) (Worker made [])
      (each_set (Fits one seat log all) (Fits one seat' log all) views pass left each
      (λ p v apart fits. seated made new p v free.0 (λ e. apart (e ∙ sym mine.0)) fits) (
        mine.0,
        mine.1,
        λ k late. (let h = mine.2 k (omega (arith, late)) in (seat_other seat made (Some new) k (λ e. omega (arith, e, late)) ∙ h.0, h.1)),
        λ k early. (let h = mine.3 k early in (seat_other seat made (Some new) k (λ e. let few = mine.4 in omega (arith, e, early, few)) ∙ h.0, h.1)),
        (let few = mine.4 in omega (arith, few)),
      ))
      (seat_same seat made (Some new) ∙ ap Some (sym long), sym free.1)

  -- another pass, where a worker is joined
  unseated : (k other pass : ℕ) (v : ChannelView X) → seat k ≡ Some other → pass ≢ one → pass ≢ other → Fits one seat log all pass v → Fits one (with_seat seat k None) log all pass v
  unseated k other pass (Single list made joined) here apart elsewhere fits = absurd (apart fits.0)
  unseated k other pass (Worker j list) here apart elsewhere fits =
      (seat_other seat k None j (λ e. elsewhere (some_same pass other (sym fits.0 ∙ ap seat e ∙ here))) ∙ fits.0, fits.1)
  unseated k other pass Spent here apart elsewhere fits = tt

  -- the worker of a pass that is next to be joined was made
  made_before : (number other : ℕ) (list : List X) (made : ℕ) (joined : List (List X)) (pass : ℕ) → Fits one seat log all pass (Single list made joined) → seat number ≡ Some other → number < made
  made_before number other list made joined pass fits here =
      ⊎_elim
      (λ (low : number < made). low)
      (λ (high : made ≤ number). absurd (none_some other (sym (fits.2 number high).0 ∙ here)))
      (cases_lt number made)

  -- the lists of the workers that were joined, with one more
  joined_more : (joined : List (List X)) (taken : List X) (k : ℕ) → (k < length joined → marked k log ≡ slice_index_or joined k []) → taken ≡ marked (length joined) log → k < length joined + 1 →
      marked k log ≡ slice_index_or (joined ++ taken ∷ []) k []
  joined_more joined taken k before is early =
      ⊎_elim
      (λ (low : k < length joined). before low ∙ sym (get_or_append_left joined (taken ∷ []) [] k low))
      (λ (high : length joined ≤ k).
      let here : k ≡ length joined + 0 = omega (arith, early, high) in
      subst (λ (i : ℕ). marked i log ≡ slice_index_or (joined ++ taken ∷ []) i []) (sym here)
      (subst (λ (i : ℕ). marked i log ≡ slice_index_or (joined ++ taken ∷ []) (length joined + 0) []) (sym (omega arith)) (sym is ∙ sym (get_or-append-add joined (taken ∷ []) 0 []))))
      (cases_lt k (length joined))

  pub join_each : (views : List (ChannelView X)) (pass : ℕ) (list : List X) (made : ℕ) (joined : List (List X)) (other number : ℕ) (taken : List X) → Each (Fits one seat log all) views →
      get_elem? views pass ≡ some (Single list made joined) → other ≢ pass → get_elem? (set views pass (Single list made (joined ++ taken ∷ []))) other ≡ some (Worker number taken) → number ≡ length joined →
      Each (Fits one (with_seat seat number None) log all) (set (set views pass (Single list made (joined ++ taken ∷ []))) other Spent)
  join_each views pass list made joined other number taken each there apart there' next =
      let both = Single list made (joined ++ taken ∷ []) in
      let seat' = with_seat seat number None in
      let mine = each pass (Single list made joined) there in
      let theirs = each other (Worker number taken) (sym (set_else views pass other both apart) ∙ there') in
      let low = made_before number other list made joined pass mine theirs.0 in
      let long = length-append joined (taken ∷ []) in
      let Q : ℕ → ChannelView X → Type 0 = λ p v. (p ≢ other) → Fits one seat' log all p v in
      let first : Each Q (set views pass both) =
      each_set (Fits one seat log all) Q views pass both each
      (λ p v far fits away. unseated number other p v theirs.0 (λ e. far (e ∙ sym mine.0)) away fits)
      (λ away. (
        mine.0,
        mine.1,
        λ k late. (seat_other seat number None k (λ e. omega (arith, e, late, low)) ∙ (mine.2 k late).0, (mine.2 k late).1),
        λ k early. (seat_free k early mine.3, joined_more joined taken k (λ h. (mine.3 k h).1) (subst (λ (i : ℕ). taken ≡ marked i log) next theirs.1) (omega (arith, early, long))),
        omega (arith, long, next, low),
      )) in
      each_set Q (Fits one seat' log all) (set views pass both) other Spent first (λ p v away fits. fits away) tt
    where
      seat_free : (k : ℕ) → k < length (joined ++ taken ∷ []) → ((j : ℕ) → j < length joined → (seat j ≡ None) × (marked j log ≡ slice_index_or joined j [])) → with_seat seat number None k ≡ None
      seat_free k early before =
          ⊎_elim
          (λ (low : k < length joined). seat_other seat number None k (λ e. omega (arith, e, low, next)) ∙ (before k low).0)
          (λ (high : length joined ≤ k).
          let long = length-append joined (taken ∷ []) in
          let same : k ≡ number = omega (arith, early, high, next, long) in
          ap (with_seat seat number None) same ∙ seat_same seat number None)
          (cases_lt k (length joined))
