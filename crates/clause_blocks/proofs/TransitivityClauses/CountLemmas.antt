-- How many clauses transitivity has.
use Rattle.std.proofs.Common.{◌≡◌, inl, inr, ℕ, zero, suc, ◌+◌, ◌-◌, ◌*◌, ◌/◌, [], length, refl, sym, ap, ◌∙◌, arith, length-append, ◌≤◌}
use Rattle.std.specs.List.{flat_map, range_with_len}
use Rattle.std.proofs.lemmas.Bool.{cases_order}
use Rattle.std.proofs.lemmas.Nat.{mul-le}
use Rattle.var_layout.specs.OrderVariables.{numbers_above}
use Rattle.clause_blocks.specs.Blocks.{no_cycle, transitivity_from, transitivity}

one_more_pair : (l : ℕ) → 2 + 2 * l ≡ 2 * suc l
one_more_pair l = omega arith

-- two clauses for each third operation
pub third_count : (n i j a l : ℕ) → length (flat_map (no_cycle n i j) (range_with_len a l)) ≡ 2 * l
third_count n i j a zero = refl
third_count n i j a (suc l) = length-append (no_cycle n i j a) (flat_map (no_cycle n i j) (range_with_len (a + 1) l)) ∙ ap (λ m. 2 + m) (third_count n i j (a + 1) l) ∙ one_more_pair l

less_one : (l : ℕ) → suc l - 1 ≡ l
less_one l = omega arith

less_two : (l : ℕ) → suc (suc l) - 2 ≡ l
less_two l = omega arith

second_product : (l : ℕ) → 2 * suc l + suc l * l ≡ suc (suc l) * suc l
second_product l = omega arith

first_product : (l x : ℕ) → x * 3 ≡ suc (suc l) * suc l * l → (suc (suc l) * suc l + x) * 3 ≡ suc (suc (suc l)) * suc (suc l) * suc l
first_product l x e = omega (arith, e)

one_more_second : (l : ℕ) → 2 * l + l * (l - 1) ≡ suc l * (suc l - 1)
one_more_second zero = refl
one_more_second (suc l) = ap (λ m. 2 * suc l + suc l * m) (less_one l) ∙ second_product l ∙ ap (λ m. suc (suc l) * m) (sym (less_one (suc l)))

second_count : (n i a l : ℕ) → a + l ≡ n → length (flat_map (λ j. flat_map (no_cycle n i j) (numbers_above n j)) (range_with_len a l)) ≡ l * (l - 1)
second_count n i a zero e = refl
second_count n i a (suc l) e =
    let left : n - (a + 1) ≡ l = omega (arith, e) in
    length-append (flat_map (no_cycle n i a) (numbers_above n a)) (flat_map (λ j. flat_map (no_cycle n i j) (numbers_above n j)) (range_with_len (a + 1) l))
    ∙ (λ p. (third_count n i a (a + 1) (n - (a + 1)) ∙ ap (λ m. 2 * m) left) p + second_count n i (a + 1) l (omega (arith, e)) p)
    ∙ one_more_second l

one_more_first : (l x : ℕ) → x * 3 ≡ l * (l - 1) * (l - 2) → (l * (l - 1) + x) * 3 ≡ suc l * (suc l - 1) * (suc l - 2)
one_more_first zero x e = omega (arith, e)
one_more_first (suc zero) x e = omega (arith, e)
one_more_first (suc (suc l)) x e =
    ap (λ m. (suc (suc l) * m + x) * 3) (less_one (suc l))
    ∙ first_product l x (e ∙ (λ p. suc (suc l) * less_one (suc l) p * less_two l p))
    ∙ (λ p. suc (suc (suc l)) * sym (less_one (suc (suc l))) p * sym (less_two (suc l)) p)

first_count : (n a l : ℕ) → a + l ≡ n → length (flat_map (transitivity_from n) (range_with_len a l)) * 3 ≡ l * (l - 1) * (l - 2)
first_count n a zero e = refl
first_count n a (suc l) e =
    let left : n - (a + 1) ≡ l = omega (arith, e) in
    let here : length (transitivity_from n a) ≡ l * (l - 1) = second_count n a (a + 1) (n - (a + 1)) (omega (arith, e)) ∙ ap (λ m. m * (m - 1)) left in
    ap (λ m. m * 3) (length-append (transitivity_from n a) (flat_map (transitivity_from n) (range_with_len (a + 1) l)) ∙ ap (λ m. m + length (flat_map (transitivity_from n) (range_with_len (a + 1) l))) here)
    ∙ one_more_first l (length (flat_map (transitivity_from n) (range_with_len (a + 1) l))) (first_count n (a + 1) l (omega (arith, e)))

third_of : (x y : ℕ) → x * 3 ≡ y → x ≡ y / 3
third_of x y e = omega (arith, e)

pub transitivity_count : (n : ℕ) → length (transitivity n) ≡ n * (n - 1) * (n - 2) / 3
transitivity_count n = third_of (length (transitivity n)) (n * (n - 1) * (n - 2)) (first_count n 0 n (omega arith))

-- a trace has 160 operations at most, and so there are not too many of them to be counted
pub few_transitivity : (n : ℕ) → n ≤ 160 → length (transitivity n) ≤ 2000000
few_transitivity n few =
    let pairs = mul-le n (n - 1) 160 160 few (omega (arith, few)) in
    let triples = mul-le (n * (n - 1)) (n - 2) 25600 160 pairs (omega (arith, few)) in
    let count = transitivity_count n in
    omega (arith, triples, count)

-- no operation is above the last one
pub none_from : (n i : ℕ) → n ≤ i + 1 → transitivity_from n i ≡ []
none_from n i high =
    let none : n - (i + 1) ≡ 0 = omega (arith, high) in
    ap (λ m. flat_map (λ j. flat_map (no_cycle n i j) (numbers_above n j)) (range_with_len (i + 1) m)) none

from_within : (n i : ℕ) → i + 1 ≤ n → length (transitivity_from n i) ≡ (n - i - 1) * (n - i - 1 - 1)
from_within n i low =
    let above : n - (i + 1) ≡ n - i - 1 = omega (arith, low) in
    second_count n i (i + 1) (n - (i + 1)) (omega (arith, low)) ∙ ap (λ m. m * (m - 1)) above

from_behind : (n i : ℕ) → n ≤ i → length (transitivity_from n i) ≡ (n - i - 1) * (n - i - 1 - 1)
from_behind n i high =
    let none : n - i - 1 ≡ 0 = omega (arith, high) in
    ap length (none_from n i (omega (arith, high))) ∙ sym (ap (λ m. m * (m - 1)) none)

-- how many clauses there are of a lowest operation
pub from_count : (n i : ℕ) → length (transitivity_from n i) ≡ (n - i - 1) * (n - i - 1 - 1)
from_count n i = elim (cases_order i n) [
  | inl e ↦ from_behind n i (omega (arith, e))
  | inr (inl l) ↦ from_within n i (omega (arith, l))
  | inr (inr l) ↦ from_behind n i (omega (arith, l))
]
