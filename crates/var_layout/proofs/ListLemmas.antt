-- Numbered lists, the first number that passes a test, and how long a filtered list is.
use Rattle.std.proofs.Common.{◌≡◌, ℕ, ◌+◌, ◌<◌, ◌≤◌, List, [], ◌∷◌, ◌++◌, length, get_or, take, map, Bool, true, false, ap, sym, ◌∙◌, arith, add-zero, zero-add}
use Rattle.std.specs.List.{enumerate_from, position_or_len, range_with_len, sum_by}
use Rattle.std.proofs.lemmas.List.{take_more, map-append, length-take-le}
use Rattle.std.proofs.lemmas.List.FromFn.{get_or-range_with_len, length-range_with_len, map-range_with_len_more}
use Rattle.std.proofs.lemmas.List.Sums.{position_or_len_is, sum_by_push}
use Rattle.var_layout.proofs.RangeLemmas.{range_more}

enumerate_push : {X : Type 0} (n : ℕ) (xs : List X) (y : X) → enumerate_from n (xs ++ y ∷ []) ≡ enumerate_from n xs ++ (n + length xs, y) ∷ []
enumerate_push n [] y = ap (λ m. (m, y) ∷ []) (sym (add-zero n))
enumerate_push n (x ∷ xs) y =
    let moved : (n + 1) + length xs ≡ n + length (x ∷ xs) = omega arith in
    ap (λ l. (n, x) ∷ l) (enumerate_push (n + 1) xs y ∙ ap (λ m. enumerate_from (n + 1) xs ++ (m, y) ∷ []) moved)

-- one more numbered element
pub numbered_more : {X Y : Type 0} (f : ℕ × X → Y) (n : ℕ) (xs : List X) (i : ℕ) (d : X) → i < length xs →
    map f (enumerate_from n (take (i + 1) xs)) ≡ map f (enumerate_from n (take i xs)) ++ f (n + i, get_or xs i d) ∷ []
numbered_more f n xs i d h =
    let cut : length (take i xs) ≡ i = length-take-le i xs (omega arith) in
    ap (λ l. map f (enumerate_from n l)) (take_more xs i d h)
    ∙ ap (map f) (enumerate_push n (take i xs) (get_or xs i d))
    ∙ map-append f (enumerate_from n (take i xs)) ((n + length (take i xs), get_or xs i d) ∷ [])
    ∙ ap (λ m. map f (enumerate_from n (take i xs)) ++ f (n + m, get_or xs i d) ∷ []) cut

-- the first number that passes
pub first_number : (p : ℕ → Bool) (n k : ℕ) → k ≤ n → ((j : ℕ) → j < k → p j ≡ false) → (k < n → p k ≡ true) → k ≡ position_or_len p (range_with_len 0 n)
first_number p n k within before here =
    sym (position_or_len_is p (range_with_len 0 n) k 0 (omega (arith, length-range_with_len 0 n))
    (λ j l. let at : get_or (range_with_len 0 n) j 0 ≡ 0 + j = get_or-range_with_len 0 n j 0 (omega arith) in ap p (at ∙ zero-add j) ∙ before j l)
    (λ l. let less : k < n = omega (arith, length-range_with_len 0 n) in let at : get_or (range_with_len 0 n) k 0 ≡ 0 + k = get_or-range_with_len 0 n k 0 less in ap p (at ∙ zero-add k) ∙ here less))

pub sum_more : (f : ℕ → ℕ) (n : ℕ) → sum_by f (range_with_len 0 (n + 1)) ≡ sum_by f (range_with_len 0 n) + f n
sum_more f n = ap (sum_by f) (range_more 0 n) ∙ sum_by_push f (range_with_len 0 n) (0 + n) ∙ ap (λ m. sum_by f (range_with_len 0 n) + f m) (zero-add n)

pub mapped_more : {Y : Type 0} (f : ℕ → Y) (n : ℕ) → map f (range_with_len 0 (n + 1)) ≡ map f (range_with_len 0 n) ++ f n ∷ []
mapped_more f n = map-range_with_len_more f 0 n n (zero-add n)
