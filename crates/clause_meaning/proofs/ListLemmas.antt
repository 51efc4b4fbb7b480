-- What some elements give, one after the other: what is made of that, and what each of it gives.
use Rattle.std.proofs.Common.{◌≡◌, ℕ, ◌+◌, List, [], ◌∷◌, ◌++◌, map, Bool, true, false, cond, refl, sym, ap, ◌∙◌, append_assoc}
use Rattle.std.specs.List.{flat_map, range_with_len}
use Rattle.std.proofs.lemmas.List.{map-append}
use Rattle.std.proofs.lemmas.List.Concat.{flat_map-append}
use Rattle.var_layout.proofs.ListLemmas.{mapped_more}

pub mapped_flat : {X A B : Type 0} (g : A → B) (f : X → List A) (xs : List X) → map g (flat_map f xs) ≡ flat_map (λ x. map g (f x)) xs
mapped_flat g f [] = refl
mapped_flat g f (x ∷ xs) = map-append g (f x) (flat_map f xs) ∙ ap (λ l. map g (f x) ++ l) (mapped_flat g f xs)

pub flat_flat : {X A B : Type 0} (g : A → List B) (f : X → List A) (xs : List X) → flat_map g (flat_map f xs) ≡ flat_map (λ x. flat_map g (f x)) xs
flat_flat g f [] = refl
flat_flat g f (x ∷ xs) = flat_map-append g (f x) (flat_map f xs) ∙ ap (λ l. flat_map g (f x) ++ l) (flat_flat g f xs)

pub flat_joined : {X A : Type 0} (f : X → List A) (xs ys : List X) (us vs : List A) → flat_map f xs ≡ us → flat_map f ys ≡ vs → flat_map f (xs ++ ys) ≡ us ++ vs
flat_joined f xs ys us vs h g = flat_map-append f xs ys ∙ (λ p. h p ++ g p)

pub flat_if : {X A : Type 0} (f : X → List A) (b : Bool) (xs ys : List X) (us vs : List A) → flat_map f xs ≡ us → flat_map f ys ≡ vs → flat_map f (cond b xs ys) ≡ cond b us vs
flat_if f true xs ys us vs h g = h
flat_if f false xs ys us vs h g = g

-- one more number, after some elements
pub mapped_push : {A : Type 0} (f : ℕ → A) (bs : List A) (k : ℕ) → (bs ++ map f (range_with_len 0 k)) ++ f k ∷ [] ≡ bs ++ map f (range_with_len 0 (k + 1))
mapped_push f bs k = append_assoc bs (map f (range_with_len 0 k)) (f k ∷ []) ∙ ap (λ l. bs ++ l) (sym (mapped_more f k))
