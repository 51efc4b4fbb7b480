-- Runs that stay in order.
use Rattle.std.proofs.Common.{◌≡◌, ◌⊎◌, ◌<◌, ◌≤◌, ◌+◌, ◌-◌, ℕ, List, [], ◌∷◌, ◌++◌, length, get_or, set, refl, ap, sym, ◌∙◌, arith, inl, inr, subst}
use Rattle.std.specs.List.{All, AllPairs, Contains}
use Rattle.std.proofs.lemmas.Bool.{cases_order}
use Rattle.std.proofs.lemmas.List.{get_or_default, get_or-set_other, get_or-set_same, length-set}
use Rattle.std.proofs.lemmas.List.Elements.{All-cons, All-contains, All-get_or, All-nil, All-push, All-set, All-weaker}
use Rattle.std.proofs.lemmas.List.Quantifiers.{all_pairs_push}
use Rattle.writer_table.specs.declared.runs.Run.{Run}
use Rattle.writer_table.specs.Runs.{AreUpTo}

-- where a run is in such a list
abbrev pub IsBelow : ℕ → ℕ → Run → Type 0
IsBelow q k run = (run.process < q) ⊎ ((run.process ≡ q) × All (λ j. j ≤ k) run.places)

abbrev IsRising : Run → Type 0
IsRising run = AllPairs (λ j k. j < k) run.places

single : (place : ℕ) → AllPairs (λ j k. j < k) (place ∷ [])
single place i j d lt within = absurd (omega (arith, lt, within))

-- no runs
pub up_to_none : (q k : ℕ) → AreUpTo [] q k
up_to_none q k = record {
  ordered = record { apart = λ i j d lt within. absurd (omega (arith, within)); rising = All-nil _ };
  below = All-nil (IsBelow q k);
}

-- a higher place
pub up_to_later : (runs : List Run) (q k n : ℕ) → k ≤ n → AreUpTo runs q k → AreUpTo runs q n
up_to_later runs q k n more so = record {
  ordered = so.ordered;
  below = All-weaker (IsBelow q k) (IsBelow q n) later runs so.below;
}
  where
    later : (run : Run) → IsBelow q k run → IsBelow q n run
    later run (inl less) = inl less
    later run (inr (same, all)) = inr (same, λ i d low. (let bound = all i d low in omega (arith, bound, more)))

-- the next process
pub up_to_next : (runs : List Run) (q k : ℕ) → AreUpTo runs q k → AreUpTo runs (q + 1) 0
up_to_next runs q k so = record { ordered = so.ordered; below = All-weaker (IsBelow q k) (IsBelow (q + 1) 0) past runs so.below }
  where
    past : (run : Run) → IsBelow q k run → IsBelow (q + 1) 0 run
    past run (inl less) = inl (omega (arith, less))
    past run (inr (same, all)) = inl (omega (arith, same))

-- a run of one place is appended
pub up_to_appended : (runs : List Run) (run : Run) (place k : ℕ) → run.places ≡ place ∷ [] → k < place → All (λ (r : Run). r.process < run.process) runs → AreUpTo runs run.process k → AreUpTo (runs ++ run ∷ []) run.process place
up_to_appended runs run place k e more past so = record {
  ordered = record {
    apart = all_pairs_push (λ (a b : Run). a.process < b.process) runs run so.ordered.apart (λ i d low. past i d low);
    rising = All-push IsRising runs run so.ordered.rising (subst (λ l. AllPairs (λ i j. i < j) l) (sym e) (single place));
  };
  below = All-push (IsBelow run.process place) runs run (up_to_later runs run.process k place (omega (arith, more)) so).below (inr (refl, subst (λ l. All (λ j. j ≤ place) l) (sym e) (All-cons (λ j. j ≤ place) place [] (omega arith) (All-nil (λ j. j ≤ place)))));
}

-- a place is appended to a run
module _ (runs : List Run) (i : ℕ) (old new : Run) (place k : ℕ) (low : i < length runs) (at : get_or runs i old ≡ old) (called : new.process ≡ old.process) (longer : new.places ≡ old.places ++ place ∷ []) (more : k < place) (so : AreUpTo runs old.process k) where
  same_process : (j : ℕ) (d : Run) → (get_or (set runs i new) j d).process ≡ (get_or runs j d).process
  same_process j d =
      elim (cases_order j i) [
        | inl same ↦ ap (λ (r : Run). r.process) (ap (λ n. get_or (set runs i new) n d) same ∙ get_or-set_same runs i new d low) ∙ called ∙ ap (λ (r : Run). r.process) (sym at ∙ get_or_default runs i old d low ∙ ap (λ n. get_or runs n d) (sym same))
        | inr (inl less) ↦ ap (λ (r : Run). r.process) (get_or-set_other runs i j new d (λ e. omega (arith, e, less)))
        | inr (inr past) ↦ ap (λ (r : Run). r.process) (get_or-set_other runs i j new d (λ e. omega (arith, e, past)))
      ]

  here : (P : Run → Type 0) → All P runs → P old
  here P all = subst P at (All-get_or P runs i old low all)

  bounded : IsBelow old.process k old → All (λ j. j ≤ k) old.places
  bounded (inl less) = absurd (omega (arith, less))
  bounded (inr (same, all)) = all

  old_below : All (λ j. j ≤ k) old.places
  old_below = bounded (here (IsBelow old.process k) so.below)

  pub up_to_longer : AreUpTo (set runs i new) old.process place
  up_to_longer = record {
    ordered = record {
      apart = λ a b d lt within. (let less = so.ordered.apart a b d lt (subst (λ n. b < n) (length-set runs i new) within) in
          let one = same_process a d in
          let other = same_process b d in
          omega (arith, less, one, other));
      rising = All-set IsRising runs i new (subst (λ l. AllPairs (λ a b. a < b) l) (sym longer) (all_pairs_push (λ a b. a < b) old.places place (here IsRising so.ordered.rising) (λ j d inside. (let bound = old_below j d inside in omega (arith, bound, more))))) so.ordered.rising;
    };
    below = All-set (IsBelow old.process place) runs i new
        (inr (called, subst (λ l. All (λ j. j ≤ place) l) (sym longer) (All-push (λ j. j ≤ place) old.places place (λ j d inside. (let bound = old_below j d inside in omega (arith, bound, more))) (omega arith))))
        (up_to_later runs old.process k place (omega (arith, more)) so).below;
  }

-- where the last run is of another process, all are of lower ones
pub all_before : (runs : List Run) (count q k : ℕ) (last : Run) → count ≡ length runs → get_or runs (count - 1) last ≡ last → (last.process ≡ q → ⊥) → AreUpTo runs q k → All (λ (r : Run). r.process < q) runs
all_before runs count q k last long at other so i d low =
    let inside : count - 1 < length runs = omega (arith, long, low) in
    let end : last.process < q = under (subst (IsBelow q k) at (All-get_or (IsBelow q k) runs (count - 1) last inside so.below)) in
    let same : get_or runs (count - 1) d ≡ last = sym (get_or_default runs (count - 1) last d inside) ∙ at in
    elim (cases_order i (count - 1)) [
      | inl e ↦ subst (λ (r : Run). r.process < q) (sym (ap (λ n. get_or runs n d) e ∙ same)) end
      | inr (inl less) ↦ (let step = subst (λ (r : Run). (get_or runs i d).process < r.process) same (so.ordered.apart i (count - 1) d less inside) in omega (arith, step, end))
      | inr (inr more) ↦ absurd (omega (arith, more, low, long))
    ]
  where
    under : IsBelow q k last → last.process < q
    under (inl less) = less
    under (inr (e, all)) = absurd (other e)

-- a place that is above all is not below one
pub none_over : (runs : List Run) (q k place i : ℕ) (run : Run) → k < place → AreUpTo runs q k → Contains runs run → run.process ≡ q → Contains run.places i → place < i → ⊥
none_over runs q k place i run more so c called d over = under (All-contains (IsBelow q k) runs run so.below c)
  where
    under : IsBelow q k run → ⊥
    under (inl less) = omega (arith, less, called)
    under (inr (e, all)) = (let bound = All-contains (λ j. j ≤ k) run.places i all d in omega (arith, bound, more, over))
