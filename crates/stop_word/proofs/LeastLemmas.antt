-- The least of a list of numbers.
use Rattle.std.proofs.Common.{◌≡◌, ◌≢◌, ℕ, zero, suc, ◌<◌, ◌≤◌, min, List, [], ◌∷◌, ◌++◌, refl, sym, subst, ⊎_elim, arith}
use Rattle.std.specs.List.{All, Contains}
use Rattle.std.proofs.lemmas.Bool.{cases_lt}
use Rattle.std.proofs.lemmas.List.Elements.{All-nil, All-cons, All-head, All-weaker}
use Rattle.stop_word.specs.WordRule.{nothing, least_of}

pub least_small : (xs : List ℕ) → least_of xs ≤ nothing
least_small [] = omega arith
least_small (x ∷ xs) = let rest = least_small xs in omega (arith, rest)

pub least-append : (xs ys : List ℕ) → least_of (xs ++ ys) ≡ min (least_of xs) (least_of ys)
least-append [] ys = let small = least_small ys in omega (arith, small)
least-append (x ∷ xs) ys = let rest = least-append xs ys in omega (arith, rest)

pub least_below : (xs : List ℕ) → All (λ k. least_of xs ≤ k) xs
least_below [] = All-nil _
least_below (x ∷ xs) =
    All-cons (λ k. min x (least_of xs) ≤ k) x xs
    (omega arith)
    (All-weaker (λ k. least_of xs ≤ k) (λ k. min x (least_of xs) ≤ k) (λ k h. omega (arith, h)) xs (least_below xs))

head_in : (x : ℕ) (xs : List ℕ) (y : ℕ) → y ≡ x → Contains (x ∷ xs) y
head_in x xs y same = (zero, omega arith, sym same)

tail_in : (x : ℕ) (xs : List ℕ) (y : ℕ) → Contains xs y → Contains (x ∷ xs) y
tail_in x xs y (k, l, e) = (suc k, omega (arith, l), e)

-- the least is one of them, where it is not nothing
pub least_among : (xs : List ℕ) → least_of xs ≢ nothing → Contains xs (least_of xs)
least_among [] some = absurd (some refl)
least_among (x ∷ xs) some =
    ⊎_elim
    (λ (lower : x < least_of xs). head_in x xs (min x (least_of xs)) (omega (arith, lower)))
    (λ (upper : least_of xs ≤ x).
    let same : min x (least_of xs) ≡ least_of xs = omega (arith, upper) in
    let more : least_of xs ≢ nothing = λ none. some (omega (arith, same, none)) in
    subst (λ n. Contains (x ∷ xs) n) (sym same) (tail_in x xs (least_of xs) (least_among xs more)))
    (cases_lt x (least_of xs))

-- there is no number, where the least is nothing
pub none_in : (xs : List ℕ) → All (λ k. k < 4294967296) xs → least_of xs ≡ nothing → xs ≡ []
none_in [] small none = refl
none_in (x ∷ xs) small none = let low : x < 4294967296 = All-head (λ k. k < 4294967296) x xs small in absurd (omega (arith, low, none))
