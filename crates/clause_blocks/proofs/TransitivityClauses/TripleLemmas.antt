-- The clause of transitivity at a place, by arithmetic.
use Rattle.std.proofs.Common.{◌≡◌, ℕ, zero, suc, ◌+◌, ◌-◌, ◌*◌, ◌/◌, ◌%◌, ◌<◌, ◌≤◌, neg_ℤ, List, [], ◌∷◌, length, length-append, map, get_or, Bool, true, false, cond, refl, sym, ap, ◌∙◌, arith, inl, inr}
use Rattle.std.specs.List.{flat_map, range_with_len}
use Rattle.std.specs.Prelude.{nat_eq}
use Rattle.std.proofs.lemmas.Bool.{cases_order}
use Rattle.std.proofs.lemmas.Bool.Decides.{nat_tests}
use Rattle.std.proofs.lemmas.List.FromFn.{length-range_with_len}
use Rattle.var_layout.specs.OrderVariables.{order_lit}
use Rattle.clause_blocks.specs.Blocks.{no_cycle, transitivity_from}
use Rattle.clause_blocks.specs.Triples.{below_middle, clause_of_triple}
use Rattle.clause_blocks.specs.declared.triple_table.Triple.{Triple}
use Rattle.clause_blocks.proofs.TransitivityClauses.CountLemmas.{third_count, none_from}
use Rattle.clause_blocks.proofs.ClauseList.FewLemmas.{few_flat}
use Rattle.clause_blocks.proofs.InPieces.PieceLemmas.{at_later, counted_upto, entry}
use Rattle.clause_blocks.proofs.InPieces.RangeSentLemmas.{of_pair}
use Rattle.clause_blocks.proofs.InPieces.SentLemmas.{flat_parted}

-- how many clauses a pair has does not depend on its lower operation
pub pair_count : (n i j : ℕ) → length (of_pair n i j) ≡ 2 * (n - (j + 1))
pair_count n i j = third_count n i j (j + 1) (n - (j + 1))

same_row : (n i a l : ℕ) → length (flat_map (of_pair n i) (range_with_len a l)) ≡ length (flat_map (of_pair n 0) (range_with_len a l))
same_row n i a zero = refl
same_row n i a (suc l) =
    let here : length (of_pair n i a) ≡ length (of_pair n 0 a) = pair_count n i a ∙ sym (pair_count n 0 a) in
    length-append (of_pair n i a) (flat_map (of_pair n i) (range_with_len (a + 1) l))
    ∙ (λ p. here p + same_row n i (a + 1) l p)
    ∙ sym (length-append (of_pair n 0 a) (flat_map (of_pair n 0) (range_with_len (a + 1) l)))

row_before : (n i j : ℕ) → i + 1 ≤ j → below_middle n (i + 1) + length (flat_map (of_pair n i) (range_with_len (i + 1) (j - (i + 1)))) ≡ below_middle n j
row_before n i j low =
    let front = flat_map (of_pair n 0) (range_with_len 0 (i + 1)) in
    let back = flat_map (of_pair n 0) (range_with_len (i + 1) (j - (i + 1))) in
    ap (λ m. below_middle n (i + 1) + m) (same_row n i (i + 1) (j - (i + 1)))
    ∙ sym (length-append front back) ∙ ap length (flat_parted (of_pair n 0) (i + 1) j low)

-- the clauses of a lowest operation, by the counts of pairs
row_count : (n i : ℕ) → i + 1 ≤ n → below_middle n (i + 1) + length (transitivity_from n i) ≡ below_middle n n
row_count n i low = row_before n i n low

halves : (r : ℕ) → 2 * (r / 2) + r % 2 ≡ r
halves r = omega arith

-- which of the two clauses
one_of_two : (n i j k r : ℕ) (b : Bool) → (b ≡ true → r ≡ 1) → (b ≡ false → r ≡ 0) → get_or (no_cycle n i j k) r [] ≡
    cond b (order_lit n i j ∷ order_lit n j k ∷ neg_ℤ (order_lit n i k) ∷ []) (neg_ℤ (order_lit n i j) ∷ neg_ℤ (order_lit n j k) ∷ order_lit n i k ∷ [])
one_of_two n i j k r true h g = ap (λ m. get_or (no_cycle n i j k) m []) (h refl)
one_of_two n i j k r false h g = ap (λ m. get_or (no_cycle n i j k) m []) (g refl)

-- an operation has few pairs
few_of_pair : (n j : ℕ) → n ≤ 160 → length (of_pair n 0 j) ≤ 320
few_of_pair n j few = omega (arith, few, pair_count n 0 j)

pub few_middle : (n j : ℕ) → n ≤ 160 → j ≤ n → below_middle n j ≤ 51200
few_middle n j few low =
    let all = few_flat (of_pair n 0) 320 (range_with_len 0 j) (λ m. few_of_pair n m few) in
    omega (arith, all, length-range_with_len 0 j, few, low)

second_one : (r : ℕ) → nat_eq r 1 ≡ true → r ≡ 1
second_one r e = grind (arith, nat_tests)

first_one : (m : ℕ) → nat_eq (m % 2) 1 ≡ false → m % 2 ≡ 0
first_one m e = zero_or_one (m % 2) (omega arith) e
  where
    zero_or_one : (r : ℕ) → r < 2 → nat_eq r 1 ≡ false → r ≡ 0
    zero_or_one r low e = grind (arith, nat_tests)

-- three operations, and whether it is their second clause, by what is left of a place
abbrev pub triple_of : ℕ → ℕ → ℕ → Triple
triple_of i j m = record { lowest = i; middle = j; highest = j + 1 + m / 2; is_second = nat_eq (m % 2) 1 }

module _ (n i place : ℕ) (inside : place < length (transitivity_from n i)) where
  none_above : n ≤ i + 1 → ⊥
  none_above high = let none = ap length (none_from n i high) in absurd (omega (arith, none, inside))

  pub rises : i + 1 < n
  rises = elim (cases_order (i + 1) n) [
    | inl e ↦ absurd (none_above (omega (arith, e)))
    | inr (inl l) ↦ l
    | inr (inr l) ↦ absurd (none_above (omega (arith, l)))
  ]

  row_below : place + below_middle n (i + 1) < below_middle n n
  row_below = omega (arith, inside, row_count n i (omega (arith, rises)))

  module _ (j left : ℕ) (higher : i + 1 ≤ j) (within : j < n) (from : below_middle n j ≤ place + below_middle n (i + 1)) (upto : place + below_middle n (i + 1) < below_middle n (j + 1)) (rest : left ≡ place + below_middle n (i + 1) - below_middle n j) where
    left_in : left < length (of_pair n i j)
    left_in = let more = counted_upto (of_pair n 0) j in let here = pair_count n i j in let first = pair_count n 0 j in omega (arith, from, upto, rest, more, here, first)

    highest_in : j + 1 + left / 2 < n
    highest_in = let here = pair_count n i j in omega (arith, left_in, here, within)

    place_in_row : place ≡ length (flat_map (of_pair n i) (range_with_len (i + 1) (j - (i + 1)))) + left
    place_in_row = omega (arith, row_before n i j higher, from, rest)

    left_split : left ≡ length (flat_map (no_cycle n i j) (range_with_len (j + 1) (j + 1 + left / 2 - (j + 1)))) + left % 2
    left_split =
        let count : length (flat_map (no_cycle n i j) (range_with_len (j + 1) (j + 1 + left / 2 - (j + 1)))) ≡ 2 * (j + 1 + left / 2 - (j + 1)) = third_count n i j (j + 1) (j + 1 + left / 2 - (j + 1)) in
        omega (arith, count, halves left)

    clause_there : get_or (transitivity_from n i) place [] ≡ clause_of_triple n (triple_of i j left)
    clause_there =
        ap (λ m. get_or (transitivity_from n i) m []) place_in_row
        ∙ at_later (of_pair n i) (i + 1) j n left [] higher within left_in
        ∙ ap (λ m. get_or (of_pair n i j) m []) left_split
        ∙ at_later (no_cycle n i j) (j + 1) (j + 1 + left / 2) n (left % 2) [] (omega arith) highest_in (omega arith)
        ∙ one_of_two n i j (j + 1 + left / 2) (left % 2) (nat_eq (left % 2) 1) (λ e. second_one (left % 2) e) (λ e. first_one left e)

-- the same by the table
module _ (n : ℕ) (middle : List ℕ) (table : middle ≡ map (below_middle n) (range_with_len 0 (n + 1))) (i place : ℕ) (inside : place < length (transitivity_from n i)) where
  middle_at : (j : ℕ) → j ≤ n → get_or middle j 0 ≡ below_middle n j
  middle_at j low = entry (below_middle n) n middle table j low

  first_at : get_or middle (i + 1) 0 ≡ below_middle n (i + 1)
  first_at = middle_at (i + 1) (omega (arith, rises n i place inside))

  pub row_within : place + get_or middle (i + 1) 0 < get_or middle n 0
  row_within = omega (arith, row_below n i place inside, first_at, middle_at n (omega arith))

  pub row_small : n ≤ 160 → place + get_or middle (i + 1) 0 ≤ 51200
  row_small few = omega (arith, row_within, middle_at n (omega arith), few_middle n n few (omega arith))

  module _ (j : ℕ) (higher : i + 1 ≤ j) (within : j < n) (from : get_or middle j 0 ≤ place + get_or middle (i + 1) 0) (upto : place + get_or middle (i + 1) 0 < get_or middle (j + 1) 0) where
    abbrev pub left_of : ℕ
    left_of = place + get_or middle (i + 1) 0 - get_or middle j 0

    here_at : get_or middle j 0 ≡ below_middle n j
    here_at = middle_at j (omega (arith, within))

    from_middle : below_middle n j ≤ place + below_middle n (i + 1)
    from_middle = omega (arith, from, first_at, here_at)

    to_middle : place + below_middle n (i + 1) < below_middle n (j + 1)
    to_middle = omega (arith, upto, first_at, middle_at (j + 1) (omega (arith, within)))

    left_is : left_of ≡ place + below_middle n (i + 1) - below_middle n j
    left_is = λ p. place + first_at p - here_at p

    pub highest_within : j + 1 + left_of / 2 < n
    highest_within = highest_in n i place inside j left_of higher within from_middle to_middle left_is

    pub clause_is : get_or (transitivity_from n i) place [] ≡ clause_of_triple n (triple_of i j left_of)
    clause_is = clause_there n i place inside j left_of higher within from_middle to_middle left_is
