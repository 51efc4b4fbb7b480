-- The numbers of order variables.
use Rattle.std.proofs.Common.{◌≡◌, ◌<◌, ◌≤◌, ◌+◌, ◌-◌, ◌*◌, ◌/◌, ℕ, zero, suc, true, cond, ltb, leb, ap, ◌∙◌, arith, inl, inr}
use Rattle.std.specs.Prelude.{◌≢◌, pos, neg_ℤ}
use Rattle.std.proofs.Math.Nat.{mul-le-mul_left}
use Rattle.std.proofs.lemmas.Bool.{and_from, cases_order, lt-ltb, le-leb, le-ltb}
use Rattle.dimacs.specs.Literal.{is_literal_up_to}
use Rattle.var_layout.specs.OrderVariables.{order_count, order_var, order_lit}

half : (f d g : ℕ) → f + 2 * d ≤ g → f / 2 + d ≤ g / 2
half f d g l = omega (arith, l)

top : (i w d s n p : ℕ) → 1 ≤ d → d ≤ w → s ≡ 2 * w + 1 + i → n ≡ w + 1 + i → p ≡ w + i → i * s / 2 + d ≤ n * p / 2
top i w d s n p low high es en ep =
    let f : i * s ≡ i * (2 * w + 1 + i) = ap (λ k. i * k) es in
    let g : n * p ≡ (w + 1 + i) * (w + i) = λ t. en t * ep t in
    let least : 1 ≤ w = omega (arith, low, high) in
    let square = mul-le-mul_left w least in
    half (i * s) d (n * p) (omega (arith, f, g, square, high))

pub order_last : (n i j : ℕ) → i < j → j < n → order_var n i j ≤ order_count n
order_last n i j l m = top i (n - 1 - i) (j - i) (2 * n - i - 1) n (n - 1) (omega (arith, l)) (omega (arith, l, m)) (omega (arith, l, m)) (omega (arith, l, m)) (omega (arith, l, m))

pub order_first : (n i j : ℕ) → i < j → 1 ≤ order_var n i j
order_first n i j l = omega (arith, l)

pub order_small : (n : ℕ) → n ≤ 160 → order_count n ≤ 12720
order_small n l =
    let first : n - 1 ≤ 159 = omega (arith, l) in
    let product = mul-le-mul_left n first in
    omega (arith, l, product)

-- order variables are apart from one another
gap : (i d w e n s r k : ℕ) → 1 ≤ d → e ≤ d + w → n ≡ i + d + 1 + w → s ≡ 2 * d + 2 * w + i + 1 → k ≡ i + d → r ≡ i + d + 2 * w + 1 → i * s / 2 + e ≤ k * r / 2
gap i d w e n s r k low high en es ek er =
    let f : i * s ≡ i * (2 * d + 2 * w + i + 1) = ap (λ x. i * x) es in
    let g : k * r ≡ (i + d) * (i + d + 2 * w + 1) = λ t. ek t * er t in
    let square = mul-le-mul_left d low in
    let side = mul-le-mul_left w low in
    half (i * s) e (k * r) (omega (arith, f, g, square, side, high))

below : (n i j k l : ℕ) → i < j → j < n → k < l → l < n → i < k → order_var n i j < order_var n k l
below n i j k l ij jn kl ln ik =
    let most = gap i (k - i) (n - 1 - k) (j - i) n (2 * n - i - 1) (2 * n - k - 1) k (omega (arith, ik)) (omega (arith, ij, jn, ik, kl, ln)) (omega (arith, ik, kl, ln)) (omega (arith, ik, kl, ln)) (omega (arith, ik)) (omega (arith, ik, kl, ln)) in
    omega (arith, most, kl)

pub pairs_apart : (n i j k l : ℕ) → i < j → j < n → k < l → l < n → order_var n i j ≡ order_var n k l → (i ≡ k) × (j ≡ l)
pairs_apart n i j k l ij jn kl ln e =
    elim (cases_order i k) [
      | inl same ↦ (same, (let f : i * (2 * n - i - 1) / 2 ≡ k * (2 * n - k - 1) / 2 = ap (λ x. x * (2 * n - x - 1) / 2) same in omega (arith, e, f, same, ij, kl)))
      | inr (inl less) ↦ absurd (let l = below n i j k l ij jn kl ln less in omega (arith, l, e))
      | inr (inr more) ↦ absurd (let l = below n k l i j kl ln ij jn more in omega (arith, l, e))
    ]

-- order literals
pub positive : (most v : ℕ) → 1 ≤ v → v ≤ most → is_literal_up_to most (pos v) ≡ true
positive most v low high = and_from (ltb 0 v) (leb v most) (lt-ltb 0 v low) (le-leb v most high)

pub negative : (most v : ℕ) → 1 ≤ v → v ≤ most → is_literal_up_to most (neg_ℤ (pos v)) ≡ true
negative most zero low high = absurd (omega (arith, low))
negative most (suc v) low high = positive most (suc v) low high

pub order_literal_up_to : (most n i j : ℕ) → order_count n ≤ most → i ≢ j → i < n → j < n → is_literal_up_to most (order_lit n i j) ≡ true
order_literal_up_to most n i j fits apart l m =
    elim (cases_order i j) [
      | inl same ↦ absurd (apart same)
      | inr (inl less) ↦ ap (λ b. is_literal_up_to most (cond b (pos (order_var n i j)) (neg_ℤ (pos (order_var n j i))))) (lt-ltb i j less)
          ∙ positive most (order_var n i j) (order_first n i j less) (omega (arith, order_last n i j less m, fits))
      | inr (inr more) ↦ (let le : j ≤ i = omega (arith, more) in ap (λ b. is_literal_up_to most (cond b (pos (order_var n i j)) (neg_ℤ (pos (order_var n j i))))) (le-ltb i j le)
          ∙ negative most (order_var n j i) (order_first n j i more) (omega (arith, order_last n j i more l, fits)))
    ]

pub order_literal : (n i j : ℕ) → i ≢ j → i < n → j < n → is_literal_up_to (order_count n) (order_lit n i j) ≡ true
order_literal n i j apart l m = order_literal_up_to (order_count n) n i j (omega arith) apart l m
