-- Lists of any elements.
use Rattle.std.proofs.Common.{◌≡◌, ◌≤◌, List, [], ◌∷◌, ◌++◌, length, map, Bool, false, not, refl, ap, sym, ◌∙◌, arith, append_assoc}
use Rattle.std.specs.Prelude.{Some}
use Rattle.std.specs.List.{filter, list_any, slice_get}
use Rattle.std.proofs.lemmas.List.Filters.{length-filter_both}

-- no more pass than there are
pub few_pass : {A : Type 0} (p : A → Bool) (xs : List A) → length (filter p xs) ≤ length xs
few_pass p xs = omega (arith, length-filter_both p (λ x. not (p x)) (λ _. refl) xs)

pub none_passes : {A : Type 0} (xs : List A) → list_any (λ (x : A). false) xs ≡ false
none_passes [] = refl
none_passes (x ∷ xs) = none_passes xs

-- the element after a prefix of a list
pub get_behind : {A : Type 0} (xs : List A) (y : A) (ys : List A) → slice_get (xs ++ y ∷ ys) (length xs) ≡ Some y
get_behind [] y ys = refl
get_behind (x ∷ xs) y ys = get_behind xs y ys

-- lists whose elements are all there
pub same_somes : {A : Type 0} (xs ys : List A) → map Some xs ≡ map Some ys → xs ≡ ys
same_somes [] [] e = refl
same_somes [] (y ∷ ys) e = absurd (cc)
same_somes (x ∷ xs) [] e = absurd (cc)
same_somes (x ∷ xs) (y ∷ ys) e =
    let heads : Some x ≡ Some y = cc in
    let head : x ≡ y = cc in
    let tail = same_somes xs ys (cc) in
    (λ i. head i ∷ tail i)

-- a list that is cut in two, and the first element of its second part given to the first
pub next_parts : {A : Type 0} (all done : List A) (x : A) (rest after : List A) → all ≡ done ++ rest → rest ≡ x ∷ after → all ≡ (done ++ x ∷ []) ++ after
next_parts all done x rest after e f = e ∙ ap (λ l. done ++ l) f ∙ sym (append_assoc done (x ∷ []) after)
