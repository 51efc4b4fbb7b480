-- Truth values that put the operations in the order of ranks make each clause of transitivity true.
use Rattle.std.proofs.Common.{◌≡◌, ℕ, ◌+◌, ◌-◌, ◌<◌, neg_ℤ, [], ◌∷◌, Bool, true, not, ap, ◌∙◌, arith}
use Rattle.std.specs.Prelude.{nat_lt}
use Rattle.std.specs.List.{flat_map, list_all, list_any, range_with_len}
use Rattle.std.proofs.lemmas.Bool.Decides.{nat_tests}
use Rattle.dimacs.specs.Assignment.{makes_true, makes_some}
use Rattle.dimacs.specs.Models.{IsModel}
use Rattle.trace_semantics.proofs.ElementLemmas.{from_range}
use Rattle.var_layout.specs.OrderVariables.{numbers_above, order_lit}
use Rattle.clause_blocks.specs.Blocks.{no_cycle, transitivity_from, transitivity}
use Rattle.clause_blocks.specs.Ranks.{AreRanks}
use Rattle.clause_blocks.proofs.ClauseList.FormulaLemmas.{all_flat, two}
use Rattle.clause_blocks.proofs.NumbersOfNames.OrderLiteralLemmas.{lit_negated}

-- ranks have no cycle of three
no_cycle_up : (a b c : ℕ) → list_any (λ x. x) (not (nat_lt a b) ∷ not (nat_lt b c) ∷ nat_lt a c ∷ []) ≡ true
no_cycle_up a b c = grind (arith, nat_tests)

no_cycle_down : (a b c : ℕ) → list_any (λ x. x) (nat_lt a b ∷ nat_lt b c ∷ not (nat_lt a c) ∷ []) ≡ true
no_cycle_down a b c = grind (arith, nat_tests)

module _ (value : ℕ → Bool) (n : ℕ) (rank : ℕ → ℕ) (ranked : AreRanks value n rank) where
  is_before : (i j : ℕ) → i < j → j < n → makes_true value (order_lit n i j) ≡ nat_lt (rank i) (rank j)
  is_before i j h l = ranked i (omega (arith, h, l)) j h l

  is_after : (i j : ℕ) → i < j → j < n → makes_true value (neg_ℤ (order_lit n i j)) ≡ not (nat_lt (rank i) (rank j))
  is_after i j h l = lit_negated value n i j h ∙ ap not (is_before i j h l)

  cycle_true : (i j k : ℕ) → i < j → j < k → k < n → list_all (makes_some value) (no_cycle n i j k) ≡ true
  cycle_true i j k g h l =
      let ij : j < n = omega (arith, h, l) in
      let ik : i < k = omega (arith, g, h) in
      two (makes_some value) (neg_ℤ (order_lit n i j) ∷ neg_ℤ (order_lit n j k) ∷ order_lit n i k ∷ []) (order_lit n i j ∷ order_lit n j k ∷ neg_ℤ (order_lit n i k) ∷ [])
      ((λ p. list_any (λ x. x) (is_after i j g ij p ∷ is_after j k h l p ∷ is_before i k ik l p ∷ [])) ∙ no_cycle_up (rank i) (rank j) (rank k))
      ((λ p. list_any (λ x. x) (is_before i j g ij p ∷ is_before j k h l p ∷ is_after i k ik l p ∷ [])) ∙ no_cycle_down (rank i) (rank j) (rank k))

  pub ranked_true : IsModel value (transitivity n)
  ranked_true = all_flat (makes_some value) (transitivity_from n) (range_with_len 0 n)
      (λ i a. (let i_in = from_range 0 n i a in all_flat (makes_some value) (λ j. flat_map (no_cycle n i j) (numbers_above n j)) (numbers_above n i)
      (λ j b. (let j_in = from_range (i + 1) (n - (i + 1)) j b in all_flat (makes_some value) (no_cycle n i j) (numbers_above n j)
      (λ k c. (let k_in = from_range (j + 1) (n - (j + 1)) k c in cycle_true i j k (omega (arith, j_in)) (omega (arith, k_in)) (omega (arith, k_in, j_in, i_in))))))))
