-- Split variables, by the first operation of the pair.
use Rattle.std.proofs.Common.{◌≡◌, ◌≤◌, ◌+◌, ◌-◌, ℕ, List, [], ◌∷◌, ◌++◌, length, map, take, Bool, true, false, cond, refl, ap, sym, ◌∙◌, arith, append-nil}
use Rattle.std.specs.List.{filter, flat_map, range_with_len}
use Rattle.std.proofs.lemmas.Grind.{flat_map-append}
use Rattle.std.proofs.lemmas.List.{map-append, take-append-le}
use Rattle.std.proofs.lemmas.List.Elements.{filter-append}
use Rattle.trace_semantics.specs.Trace.{TraceValue, operation_count}
use Rattle.var_layout.specs.OrderVariables.{numbers_above, order_var}
use Rattle.var_layout.specs.Split.{is_split, splits_among}
use Rattle.var_layout.proofs.RangeLemmas.{range_next, range_parted}

joined : (t : TraceValue) (xs ys : List (ℕ × ℕ)) → splits_among t (xs ++ ys) ≡ splits_among t xs ++ splits_among t ys
joined t xs ys =
    ap (map (λ (pair : ℕ × ℕ). order_var (operation_count t) pair.0 pair.1)) (filter-append (is_split t) xs ys)
    ∙ map-append (λ (pair : ℕ × ℕ). order_var (operation_count t) pair.0 pair.1) (filter (is_split t) xs) (filter (is_split t) ys)

-- the pairs of i and the numbers above it, below j
abbrev pub pairs_below : ℕ → ℕ → List (ℕ × ℕ)
pairs_below i j = map (λ k. (i, k)) (range_with_len (i + 1) (j - (i + 1)))

above_more : (i j : ℕ) → i + 1 ≤ j → range_with_len (i + 1) (j + 1 - (i + 1)) ≡ range_with_len (i + 1) (j - (i + 1)) ++ j ∷ []
above_more i j l = range_next (i + 1) (j - (i + 1)) (j + 1 - (i + 1)) j (omega (arith, l)) (omega (arith, l))

abbrev pair_of : ℕ → ℕ → ℕ × ℕ
pair_of i k = (i, k)

paired : (i j : ℕ) (ks ms : List ℕ) → ms ≡ ks ++ j ∷ [] → map (pair_of i) ms ≡ map (pair_of i) ks ++ (i, j) ∷ []
paired i j ks ms e = ap (map (pair_of i)) e ∙ map-append (pair_of i) ks (j ∷ [])

one_more_pair : (i j : ℕ) → i + 1 ≤ j → pairs_below i (j + 1) ≡ pairs_below i j ++ (i, j) ∷ []
one_more_pair i j l = paired i j (range_with_len (i + 1) (j - (i + 1))) (range_with_len (i + 1) (j + 1 - (i + 1))) (above_more i j l)

pub one_more_split : (t : TraceValue) (i j : ℕ) (b : Bool) → i + 1 ≤ j → is_split t (i, j) ≡ b → splits_among t (pairs_below i (j + 1)) ≡ splits_among t (pairs_below i j) ++ cond b (order_var (operation_count t) i j ∷ []) []
one_more_split t i j b l e =
    ap (splits_among t) (one_more_pair i j l) ∙ joined t (pairs_below i j) ((i, j) ∷ [])
    ∙ ap (λ l. splits_among t (pairs_below i j) ++ l) (ap (λ h. map (λ (pair : ℕ × ℕ). order_var (operation_count t) pair.0 pair.1) (cond h ((i, j) ∷ []) [])) e ∙ at b)
  where
    at : (h : Bool) → map (λ (pair : ℕ × ℕ). order_var (operation_count t) pair.0 pair.1) (cond h ((i, j) ∷ []) []) ≡ cond h (order_var (operation_count t) i j ∷ []) []
    at true = refl
    at false = refl

-- the split variables of the pairs whose first number is below i
abbrev pub splits_below : TraceValue → ℕ → List ℕ
splits_below t i = splits_among t (flat_map (λ k. map (λ j. (k, j)) (numbers_above (operation_count t) k)) (range_with_len 0 i))

-- those of the pairs whose first number is i
abbrev pub splits_from : TraceValue → ℕ → List ℕ
splits_from t i = splits_among t (map (λ j. (i, j)) (numbers_above (operation_count t) i))

pub one_more_row : (t : TraceValue) (i : ℕ) → splits_below t (i + 1) ≡ splits_below t i ++ splits_from t i
one_more_row t i =
    let row : ℕ → List (ℕ × ℕ) = λ k. map (λ j. (k, j)) (numbers_above (operation_count t) k) in
    let here : 0 + i ≡ i = omega arith in
    ap (λ l. splits_among t (flat_map row l)) (range_next 0 i (i + 1) i refl here)
    ∙ ap (splits_among t) (flat_map-append row (range_with_len 0 i) (i ∷ []) ∙ ap (λ l. flat_map row (range_with_len 0 i) ++ l) (append-nil (row i)))
    ∙ joined t (flat_map row (range_with_len 0 i)) (row i)

-- the first of them do not depend on the rows after, where those so far are enough
pub enough_splits : (t : TraceValue) (i most : ℕ) → i ≤ operation_count t → most ≤ length (splits_below t i) → take most (splits_below t i) ≡ take most (splits_below t (operation_count t))
enough_splits t i most within enough =
    let n = operation_count t in
    let row : ℕ → List (ℕ × ℕ) = λ k. map (λ j. (k, j)) (numbers_above n k) in
    let after = flat_map row (range_with_len (0 + i) (n - i)) in
    let all : i + (n - i) ≡ n = omega (arith, within) in
    let parted : splits_below t n ≡ splits_below t i ++ splits_among t after =
    ap (λ m. splits_below t m) (sym all) ∙ ap (λ l. splits_among t (flat_map row l)) (range_parted 0 i (n - i))
    ∙ ap (splits_among t) (flat_map-append row (range_with_len 0 i) (range_with_len (0 + i) (n - i))) ∙ joined t (flat_map row (range_with_len 0 i)) after in
    sym (ap (take most) parted ∙ take-append-le most (splits_below t i) (splits_among t after) enough)
