-- The clause of transitivity at a place of those of a lowest operation.
use Rattle.std.proofs.Common.{◌≡◌, ℕ, zero, suc, ◌+◌, ◌-◌, ◌*◌, ◌/◌, ◌%◌, ◌<◌, ◌≤◌, List, ◌++◌, length, Some, None, true, false, refl, ap, ◌∙◌, arith}
use Rattle.std.specs.Prelude.{slice_get, nat_eq}
use Rattle.std.specs.List.{flat_map, range_with_len}
use Rattle.var_layout.specs.OrderVariables.{numbers_above}
use Rattle.clause_meaning.specs.declared.meaning.ClauseMeaning.{ClauseMeaning}
use Rattle.clause_meaning.specs.declared.meaning.ClauseMeaning.TheVariants as say
use Rattle.clause_meaning.specs.Meanings.{of_three}
use Rattle.clause_meaning.proofs.PlaceLemmas.{slice_left, slice_right}

-- those of a lowest operation and a middle one
abbrev pub with_middle : ℕ → ℕ → ℕ → List ClauseMeaning
with_middle n i j = flat_map (of_three i j) (numbers_above n j)

pair_count : (i j a l : ℕ) → length (flat_map (of_three i j) (range_with_len a l)) ≡ 2 * l
pair_count i j a zero = refl
pair_count i j a (suc l) = omega (arith, pair_count i j (a + 1) l)

pub middle_count : (n i j : ℕ) → length (with_middle n i j) ≡ 2 * (n - (j + 1))
middle_count n i j = pair_count i j (j + 1) (n - (j + 1))

-- the two clauses of each highest operation
pair_at : (i j a l m : ℕ) → m < 2 * l → slice_get (flat_map (of_three i j) (range_with_len a l)) m ≡ Some (say.NoCycle i j (a + m / 2) (nat_eq (m % 2) 1))
pair_at i j a zero m low = absurd (omega (arith, low))
pair_at i j a (suc l) zero low = let here : a ≡ a + 0 / 2 = omega arith in ap (λ k. Some (say.NoCycle i j k false)) here
pair_at i j a (suc l) (suc zero) low = let here : a ≡ a + 1 / 2 = omega arith in ap (λ k. Some (say.NoCycle i j k true)) here
pair_at i j a (suc l) (suc (suc m)) low =
    let half : a + 1 + m / 2 ≡ a + suc (suc m) / 2 = omega arith in
    let rest : m % 2 ≡ suc (suc m) % 2 = omega arith in
    pair_at i j (a + 1) l m (omega (arith, low)) ∙ (λ p. Some (say.NoCycle i j (half p) (nat_eq (rest p) 1)))

-- the clauses of a lowest operation whose middle one is j or above
abbrev pub from_middle : ℕ → ℕ → ℕ → List ClauseMeaning
from_middle n i j = flat_map (with_middle n i) (range_with_len j (n - j))

next_middle : (n i j : ℕ) → j < n → from_middle n i j ≡ with_middle n i j ++ from_middle n i (j + 1)
next_middle n i j low =
    let more : n - j ≡ suc (n - (j + 1)) = omega (arith, low) in
    ap (λ m. flat_map (with_middle n i) (range_with_len j m)) more

module _ (n i j : ℕ) (low : j < n) (rest : ℕ) where
  pub triple_here : rest < 2 * (n - j - 1) → slice_get (from_middle n i j) rest ≡ Some (say.NoCycle i j (j + 1 + rest / 2) (nat_eq (rest % 2) 1))
  triple_here inside =
      let few : rest < 2 * (n - (j + 1)) = omega (arith, inside) in
      let within : rest < length (with_middle n i j) = omega (arith, few, middle_count n i j) in
      ap (λ l. slice_get l rest) (next_middle n i j low)
      ∙ slice_left (with_middle n i j) (from_middle n i (j + 1)) rest within
      ∙ pair_at i j (j + 1) (n - (j + 1)) rest few

  pub triple_later : (left : ℕ) → 2 * (n - j - 1) ≤ rest → left ≡ rest - 2 * (n - j - 1) → slice_get (from_middle n i j) rest ≡ slice_get (from_middle n i (j + 1)) left
  triple_later left past e =
      let high : length (with_middle n i j) ≤ rest = omega (arith, past, middle_count n i j) in
      let same : rest - length (with_middle n i j) ≡ left = omega (arith, e, middle_count n i j) in
      ap (λ l. slice_get l rest) (next_middle n i j low)
      ∙ slice_right (with_middle n i j) (from_middle n i (j + 1)) rest high
      ∙ ap (slice_get (from_middle n i (j + 1))) same

pub none_from : (n i j rest : ℕ) → n ≤ j → slice_get (from_middle n i j) rest ≡ None
none_from n i j rest high = let none : n - j ≡ 0 = omega (arith, high) in ap (λ m. slice_get (flat_map (with_middle n i) (range_with_len j m)) rest) none

-- how many there are
