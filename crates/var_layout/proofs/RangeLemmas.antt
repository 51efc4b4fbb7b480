-- Numbers in order, and those of them that pass a test.
use Rattle.std.proofs.Common.{◌≡◌, ◌+◌, ℕ, zero, suc, [], ◌∷◌, ◌++◌, Bool, cond, refl, ap, ◌∙◌, arith}
use Rattle.std.specs.List.{filter, range_with_len}
use Rattle.std.proofs.lemmas.List.Elements.{filter-append}

pub range_more : (a n : ℕ) → range_with_len a (n + 1) ≡ range_with_len a n ++ (a + n) ∷ []
range_more a zero = let e : a ≡ a + zero = omega arith in ap (λ k. k ∷ []) e
range_more a (suc n) =
    let e : suc n + 1 ≡ suc (n + 1) = omega arith in
    let f : a + 1 + n ≡ a + suc n = omega arith in
    ap (range_with_len a) e ∙ ap (λ l. a ∷ l) (range_more (a + 1) n ∙ ap (λ k. range_with_len (a + 1) n ++ k ∷ []) f)

-- the same for numbers that arithmetic alone shows equal
pub range_next : (a n m j : ℕ) → m ≡ n + 1 → a + n ≡ j → range_with_len a m ≡ range_with_len a n ++ j ∷ []
range_next a n m j more last = ap (range_with_len a) more ∙ range_more a n ∙ ap (λ k. range_with_len a n ++ k ∷ []) last

pub filter_range_more : (p : ℕ → Bool) (k : ℕ) (b : Bool) → p k ≡ b → filter p (range_with_len 0 (k + 1)) ≡ filter p (range_with_len 0 k) ++ cond b (k ∷ []) []
filter_range_more p k b e =
    ap (filter p) (range_next 0 k (k + 1) k refl (omega arith)) ∙ filter-append p (range_with_len 0 k) (k ∷ []) ∙ ap (λ h. filter p (range_with_len 0 k) ++ cond h (k ∷ []) []) e

-- the numbers from a on, and those after them
pub range_parted : (a k m : ℕ) → range_with_len a (k + m) ≡ range_with_len a k ++ range_with_len (a + k) m
range_parted a zero m =
    let none : 0 + m ≡ m = omega arith in
    let here : a ≡ a + 0 = omega arith in
    λ p. range_with_len (here p) (none p)
range_parted a (suc k) m =
    let more : suc k + m ≡ suc (k + m) = omega arith in
    let behind : a + 1 + k ≡ a + suc k = omega arith in
    ap (range_with_len a) more ∙ ap (λ l. a ∷ l) (range_parted (a + 1) k m ∙ ap (λ b. range_with_len (a + 1) k ++ range_with_len b m) behind)
