-- The leaves that do not have something, leaf by leaf.
use Rattle.std.proofs.Common.{◌≡◌, ◌⊎◌, ℕ, ◌<◌, ◌≤◌, ◌+◌, suc, List, [], ◌∷◌, ◌++◌, length, get_or, sym, inl, inr, subst, arith}
use Rattle.std.specs.List.{All, AllPairs, Contains}
use Rattle.std.proofs.lemmas.Bool.{cases_lt, cases_order}
use Rattle.std.proofs.lemmas.List.Elements.{All-append, Contains-append_cases, Contains-append_left, Contains-append_right, Contains-get_or}
use Rattle.std.proofs.lemmas.List.Kept.{AllPairs-cons}
use Rattle.std.proofs.lemmas.List.Quantifiers.{all_pairs_push}
use Rattle.trace_semantics.proofs.ElementLemmas.{head_in, tail_in, none_in, cases_in}
use Rattle.result_ledger.specs.Pieces.{AreWithoutBetween}
use Rattle.result_ledger.specs.Verdict.{AreWithout}

pub below_next : (leaf end : ℕ) → leaf < end + 1 → (leaf < end) ⊎ (leaf ≡ end)
below_next leaf end below = elim (cases_order leaf end) [ inl e ↦ inr e | inr (inl h) ↦ inl h | inr (inr h) ↦ absurd (omega (arith, h, below)) ]

module _ (Has : ℕ → Type 0) where
  -- the next leaf has it
  pub had_between : (from end : ℕ) (leaves : List ℕ) → Has end → AreWithoutBetween Has from end leaves → AreWithoutBetween Has from (end + 1) leaves
  had_between from end leaves proved so = record {
    rising = so.rising;
    each = λ leaf c. let (above, below, lacks) = so.each leaf c in (above, omega (arith, below), lacks);
    every = λ leaf above below. elim (below_next leaf end below) [
      | inl h ↦ so.every leaf above h
      | inr same ↦ inl (subst Has (sym same) proved)
    ];
  }

  listed_below : (from end : ℕ) (leaves : List ℕ) → AreWithoutBetween Has from end leaves → (k d : ℕ) → k < length leaves → get_or leaves k d < end
  listed_below from end leaves so k d within =
      (so.each (get_or leaves k d) (Contains-get_or leaves k d within)).1

  -- the next leaf does not
  pub listed_between : (from end : ℕ) (leaves : List ℕ) → from ≤ end → (Has end → ⊥) → AreWithoutBetween Has from end leaves → AreWithoutBetween Has from (end + 1) (leaves ++ end ∷ [])
  listed_between from end leaves past lacks so = record {
    rising = all_pairs_push (λ x y. x < y) leaves end so.rising (listed_below from end leaves so);
    each = λ leaf c. elim (Contains-append_cases leaves (end ∷ []) leaf c) [
      | inl before ↦ let (above, below, none) = so.each leaf before in (above, omega (arith, below), none)
      | inr last ↦ elim (cases_in end [] leaf last) [
        | inl same ↦ (omega (arith, same, past), omega (arith, same), λ proved. lacks (subst Has (sym same) proved))
        | inr none ↦ absurd (none_in leaf none)
      ]
    ];
    every = λ leaf above below. elim (below_next leaf end below) [
      | inl h ↦ elim (so.every leaf above h) [ inl proved ↦ inl proved | inr there ↦ inr (Contains-append_left leaves (end ∷ []) leaf there) ]
      | inr same ↦ inr (subst (λ (n : ℕ). Contains (leaves ++ end ∷ []) n) (sym same) (Contains-append_right leaves (end ∷ []) end (head_in end [])))
    ];
  }

  -- all leaves before one are those from 0 on
  pub from_first : (end : ℕ) (leaves : List ℕ) → AreWithout Has end leaves → AreWithoutBetween Has 0 end leaves
  from_first end leaves so = record {
    rising = so.rising;
    each = λ leaf c. let (below, lacks) = so.each leaf c in (omega arith, below, lacks);
    every = λ leaf above below. so.every leaf below;
  }

  pub all_before : (end : ℕ) (leaves : List ℕ) → AreWithoutBetween Has 0 end leaves → AreWithout Has end leaves
  all_before end leaves so = record {
    rising = so.rising;
    each = λ leaf c. let (above, below, lacks) = so.each leaf c in (below, lacks);
    every = λ leaf below. so.every leaf (omega arith) below;
  }

  pub had_on : (end : ℕ) (leaves : List ℕ) → Has end → AreWithout Has end leaves → AreWithout Has (end + 1) leaves
  had_on end leaves proved so = all_before (end + 1) leaves (had_between 0 end leaves proved (from_first end leaves so))

  pub listed_on : (end : ℕ) (leaves : List ℕ) → (Has end → ⊥) → AreWithout Has end leaves → AreWithout Has (end + 1) (leaves ++ end ∷ [])
  listed_on end leaves lacks so = all_before (end + 1) (leaves ++ end ∷ []) (listed_between 0 end leaves (omega arith) lacks (from_first end leaves so))

-- numbers that rise, and then others that rise and are above all of these
rising_append : (xs ys : List ℕ) → AllPairs (λ x y. x < y) xs → AllPairs (λ x y. x < y) ys → ((x y : ℕ) → Contains xs x → Contains ys y → x < y) → AllPairs (λ x y. x < y) (xs ++ ys)
rising_append [] ys first second apart = second
rising_append (x ∷ xs) ys first second apart =
    let above : All (λ (y : ℕ). x < y) xs = λ k d within. first 0 (suc k) d (omega arith) (omega (arith, within)) in
    let far : All (λ (y : ℕ). x < y) ys = λ k d within. apart x (get_or ys k d) (head_in x xs) (Contains-get_or ys k d within) in
    AllPairs-cons
    (λ x y. x < y)
    x
    (xs ++ ys)
    (All-append (λ (y : ℕ). x < y) xs ys above far)
    (rising_append xs ys (λ i j d below within. first (suc i) (suc j) d (omega (arith, below)) (omega (arith, within))) second (λ y z there here. apart y z (tail_in x xs y there) here))

-- two pieces, one after the other
pub both_pieces : (Has : ℕ → Type 0) (from middle end : ℕ) (xs ys : List ℕ) → from ≤ middle → middle ≤ end → AreWithoutBetween Has from middle xs → AreWithoutBetween Has middle end ys → AreWithoutBetween Has from end (xs ++ ys)
both_pieces Has from middle end xs ys first second lower upper = record {
  rising = rising_append xs ys lower.rising upper.rising (λ x y there here. omega (arith, (lower.each x there).1, (upper.each y here).0));
  each = λ leaf c. elim (Contains-append_cases xs ys leaf c) [
    | inl there ↦ let (above, below, lacks) = lower.each leaf there in (above, omega (arith, below, second), lacks)
    | inr here ↦ let (above, below, lacks) = upper.each leaf here in (omega (arith, above, first), below, lacks)
  ];
  every = λ leaf above below. elim (cases_lt leaf middle) [
    | inl low ↦ elim (lower.every leaf above low) [ inl proved ↦ inl proved | inr there ↦ inr (Contains-append_left xs ys leaf there) ]
    | inr high ↦ elim (upper.every leaf high below) [ inl proved ↦ inl proved | inr here ↦ inr (Contains-append_right xs ys leaf here) ]
  ];
}
