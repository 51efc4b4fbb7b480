use Rattle.std.proofs.Common.{◌≡◌, ◌<◌, ◌++◌, ◌∙◌, OnOk, ap, subst, arith, ℕ, zero, suc, ◌+◌, ◌-◌, ◌*◌, ◌/◌, ◌%◌, ◌≤◌, ℤ, List, [], ◌∷◌, map, Bool, true, false, cond, refl, sym}
use Rattle.std.specs.List.{flat_map, filter, range_with_len}
use Rattle.std.specs.Prelude.{nat_lt, ◌&&◌}
use Rattle.std.proofs.lemmas.Bool.Decides.{nat_tests}
use Rattle.std.proofs.lemmas.Nat.{div-mul-add, mod-mul-add}
use Rattle.trace_semantics.specs.Trace.{operation_count}
use Rattle.clause_blocks.specs.Blocks.{transitivity_from, no_cycle}
use Rattle.clause_blocks.specs.Cycles.{both, cycle_at, is_above}
use Rattle.clause_blocks.proofs.InPieces.RangeSentLemmas.{of_pair}
use Rattle.clause_blocks.proofs.InPieces.SentLemmas.{flat_parted}
use Rattle.clause_blocks.proofs.InPieces.StepLemmas.{flat_more}
use Rattle.clause_blocks.proofs.parallel_transitivity.push_transitivity_in_threads.Goals as goal

-- The clauses of transitivity, made pair by pair over all pairs of operations, of which those above the lowest one count.

module _ {A : Type 0} where
  -- what is made of those that pass
  flat_passing : {X Y : Type 0} (f : Y → List A) (g : X → Y) (p : X → Bool) (xs : List X) → flat_map f (map g (filter p xs)) ≡ flat_map (λ x. cond (p x) (f (g x)) []) xs
  flat_passing f g p [] = refl
  flat_passing {X} f g p (x ∷ xs) = go (p x) (flat_passing f g p xs)
    where
      go : (b : Bool) → flat_map f (map g (filter p xs)) ≡ flat_map (λ y. cond (p y) (f (g y)) []) xs
          → flat_map f (map g (cond b (x ∷ filter p xs) (filter p xs))) ≡ cond b (f (g x)) [] ++ flat_map (λ y. cond (p y) (f (g y)) []) xs
      go true e = ap (λ l. f (g x) ++ l) e
      go false e = e

  flat_same : (f g : ℕ → List A) (a l : ℕ) → ((k : ℕ) → a ≤ k → k < a + l → f k ≡ g k) → flat_map f (range_with_len a l) ≡ flat_map g (range_with_len a l)
  flat_same f g a zero h = refl
  flat_same f g a (suc l) h = (λ p. h a (omega arith) (omega arith) p ++ flat_same f g (a + 1) l (λ k low high. h k (omega (arith, low)) (omega (arith, high))) p)

  flat_none : (f : ℕ → List A) (a l : ℕ) → ((k : ℕ) → k < a + l → f k ≡ []) → flat_map f (range_with_len a l) ≡ []
  flat_none f a zero h = refl
  flat_none f a (suc l) h = (λ p. h a (omega arith) p ++ flat_none f (a + 1) l (λ k high. h k (omega (arith, high))) p)

  -- where the numbers below a give nothing
  flat_after : (f : ℕ → List A) (a n : ℕ) → a ≤ n → ((k : ℕ) → k < a → f k ≡ []) → flat_map f (range_with_len 0 n) ≡ flat_map f (range_with_len a (n - a))
  flat_after f a n low none = sym (flat_parted f a n low) ∙ ap (λ l. l ++ flat_map f (range_with_len a (n - a))) (flat_none f 0 a (λ k high. none k (omega (arith, high))))

module _ (n i : ℕ) where
  -- what operations j and k give, and the pair at a place
  abbrev of_two : ℕ → ℕ → List (List ℤ)
  of_two j k = cond (nat_lt i j && nat_lt j k) (no_cycle n i j k) []

  abbrev of_place : ℕ → List (List ℤ)
  of_place place = of_two (place / n) (place % n)

  abbrev of_row : ℕ → List (List ℤ)
  of_row j = flat_map (of_two j) (range_with_len 0 n)

  place_is : (j k : ℕ) → k < n → of_place (j * n + k) ≡ of_two j k
  place_is j k within = λ p. of_two (div-mul-add j n k within p) (mod-mul-add j n k within p)

  row_from : (j a l : ℕ) → a + l ≤ n → flat_map of_place (range_with_len (j * n + a) l) ≡ flat_map (of_two j) (range_with_len a l)
  row_from j a zero h = refl
  row_from j a (suc l) h =
      let next : j * n + a + 1 ≡ j * n + (a + 1) = omega arith in
      (λ p. place_is j a (omega (arith, h)) p ++ (ap (λ m. flat_map of_place (range_with_len m l)) next ∙ row_from j (a + 1) l (omega (arith, h))) p)

  rows : (m : ℕ) → flat_map of_place (range_with_len 0 (m * n)) ≡ flat_map of_row (range_with_len 0 m)
  rows zero =
      let none : 0 * n ≡ 0 = omega arith in
      ap (λ l. flat_map of_place (range_with_len 0 l)) none
  rows (suc m) =
      let low : m * n ≤ suc m * n = omega arith in
      let one : suc m * n - m * n ≡ n = omega arith in
      let start : m * n ≡ m * n + 0 = omega arith in
      let more : m + 1 ≡ suc m = omega arith in
      sym (flat_parted of_place (m * n) (suc m * n) low)
      ∙ (λ p. rows m p ++ (ap (λ l. flat_map of_place (range_with_len (m * n) l)) one ∙ ap (λ a. flat_map of_place (range_with_len a n)) start ∙ row_from m 0 n (omega arith)) p)
      ∙ flat_more of_row [] m
      ∙ ap (λ l. flat_map of_row (range_with_len 0 l)) more

  not_above : (j k : ℕ) → j < i + 1 → nat_lt i j && nat_lt j k ≡ false
  not_above j k low = grind (arith, nat_tests)

  not_rising : (j k : ℕ) → k < j + 1 → nat_lt i j && nat_lt j k ≡ false
  not_rising j k low = grind (arith, nat_tests)

  rising : (j k : ℕ) → i < j → j < k → nat_lt i j && nat_lt j k ≡ true
  rising j k low high = grind (arith, nat_tests)

  row_is : (j : ℕ) → i < j → j < n → of_row j ≡ of_pair n i j
  row_is j low within =
      flat_after (of_two j) (j + 1) n (omega (arith, within)) (λ k h. ap (λ b. cond b (no_cycle n i j k) []) (not_rising j k h))
      ∙ flat_same (of_two j) (no_cycle n i j) (j + 1) (n - (j + 1)) (λ k h _. ap (λ b. cond b (no_cycle n i j k) []) (rising j k low (omega (arith, h))))

  row_none : (j : ℕ) → j < i + 1 → of_row j ≡ []
  row_none j low = flat_none (of_two j) 0 n (λ k _. ap (λ b. cond b (no_cycle n i j k) []) (not_above j k low))

  all_cycles : i < n → flat_map both (map (cycle_at n i) (filter (is_above n i) (range_with_len 0 (n * n)))) ≡ transitivity_from n i
  all_cycles within =
      flat_passing both (cycle_at n i) (is_above n i) (range_with_len 0 (n * n))
      ∙ rows n
      ∙ flat_after of_row (i + 1) n (omega (arith, within)) row_none
      ∙ flat_same of_row (of_pair n i) (i + 1) (n - (i + 1)) (λ j low high. row_is j (omega (arith, low)) (omega (arith, high, within)))

pub returns : goal.returns
returns g c =
    let n = operation_count c.args.layout.now in
    let within : c.args.i < n = omega (arith, c.if-operations-i.false, c.operations.ensures) in
    let made : flat_map both c.in_ok-cycles_from.field-0.items ≡ transitivity_from n c.args.i = ap (flat_map both) c.in_ok-cycles_from.ensures ∙ all_cycles n c.args.i within in
    subst (λ l. OnOk c.push_cycles.result (c.push_cycles.new.clauses.items ≡ c.args.clauses.now.items ++ l)) made c.push_cycles.ensures
