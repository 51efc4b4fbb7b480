-- What stands at a place of two lists, one after the other.
use Rattle.std.proofs.Common.{◌≡◌, ℕ, zero, suc, ◌-◌, ◌<◌, ◌≤◌, List, [], ◌∷◌, ◌++◌, length, map, Some, refl, sym, ap, ◌∙◌, arith}
use Rattle.std.specs.Prelude.{◌≢◌, slice_get}
use Rattle.std.specs.Option.{option_map}
use Rattle.std.proofs.lemmas.Option.{slice_get-map}

pub slice_left : {X : Type 0} (xs ys : List X) (i : ℕ) → i < length xs → slice_get (xs ++ ys) i ≡ slice_get xs i
slice_left [] ys i low = absurd (omega (arith, low))
slice_left (x ∷ xs) ys zero low = refl
slice_left (x ∷ xs) ys (suc i) low = slice_left xs ys i (omega (arith, low))

pub slice_right : {X : Type 0} (xs ys : List X) (i : ℕ) → length xs ≤ i → slice_get (xs ++ ys) i ≡ slice_get ys (i - length xs)
slice_right [] ys i high = let same : i ≡ i - 0 = omega arith in ap (slice_get ys) same
slice_right (x ∷ xs) ys zero high = absurd (omega (arith, high))
slice_right (x ∷ xs) ys (suc i) high =
    let left : i - length xs ≡ suc i - length (x ∷ xs) = omega arith in
    slice_right xs ys i (omega (arith, high)) ∙ ap (slice_get ys) left

-- what is made of the elements behind a first one
pub slice_behind : {B : Type 0} (first : B) (f : ℕ → B) (xs : List ℕ) (place x : ℕ) → place ≢ 0 → slice_get xs (place - 1) ≡ Some x → Some (f x) ≡ slice_get (first ∷ map f xs) place
slice_behind first f xs zero x some e = absurd (some refl)
slice_behind first f xs (suc m) x some e =
    let same : suc m - 1 ≡ m = omega arith in
    sym (slice_get-map f xs m ∙ ap (option_map f) (sym (ap (slice_get xs) same) ∙ e))
