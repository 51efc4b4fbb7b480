-- Rising lists of numbers that have the same elements are the same.
use Rattle.std.proofs.Common.{◌≡◌, ℕ, ◌<◌, zero, suc, List, [], ◌∷◌, refl, sym, inl, inr, subst, arith}
use Rattle.std.specs.List.{AllPairs, Contains}
use Rattle.trace_semantics.proofs.ElementLemmas.{head_in, tail_in, none_in, cases_in}

abbrev pub IsRising : List ℕ → Type 0
IsRising xs = AllPairs (λ x y. x < y) xs

above_first : (x : ℕ) (xs : List ℕ) → IsRising (x ∷ xs) → (z : ℕ) → Contains xs z → x < z
above_first x xs up z (k, l, e) = subst (λ (w : ℕ). x < w) e (up zero (suc k) z (omega arith) (omega (arith, l)))

behind_first : (x : ℕ) (xs : List ℕ) → IsRising (x ∷ xs) → IsRising xs
behind_first x xs up i j d b l = up (suc i) (suc j) d (omega (arith, b)) (omega (arith, l))

first_same : (x y : ℕ) (xs ys : List ℕ) → IsRising (x ∷ xs) → IsRising (y ∷ ys) → Contains (y ∷ ys) x → Contains (x ∷ xs) y → x ≡ y
first_same x y xs ys up other c d = elim (cases_in y ys x c) [
  | inl e ↦ sym e
  | inr behind ↦ elim (cases_in x xs y d) [
    | inl e ↦ e
    | inr after ↦
        let below : x < y = above_first x xs up y after in
        let above : y < x = above_first y ys other x behind in
        absurd (omega arith)
  ]
]

behind_same : (x y : ℕ) (xs ys : List ℕ) → x ≡ y → IsRising (x ∷ xs) → (z : ℕ) → Contains xs z → Contains (y ∷ ys) z → Contains ys z
behind_same x y xs ys same up z c d = elim (cases_in y ys z d) [
  | inl e ↦ let above : x < z = above_first x xs up z c in absurd (omega arith)
  | inr behind ↦ behind
]

pub rising_same : (xs ys : List ℕ) → IsRising xs → IsRising ys → ((z : ℕ) → Contains xs z → Contains ys z) → ((z : ℕ) → Contains ys z → Contains xs z) → xs ≡ ys
rising_same [] [] up other to from = refl
rising_same [] (y ∷ ys) up other to from = absurd (none_in y (from y (head_in y ys)))
rising_same (x ∷ xs) [] up other to from = absurd (none_in x (to x (head_in x xs)))
rising_same (x ∷ xs) (y ∷ ys) up other to from =
    let same = first_same x y xs ys up other (to x (head_in x xs)) (from y (head_in y ys)) in
    let rest = rising_same xs ys (behind_first x xs up) (behind_first y ys other)
    (λ z c. behind_same x y xs ys same up z c (to z (tail_in x xs z c)))
    (λ z c. behind_same y x ys xs (sym same) other z c (from z (tail_in y ys z c))) in
    λ i. same i ∷ rest i
