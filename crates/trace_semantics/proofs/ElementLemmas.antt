-- The elements of a list: where they stand, and which elements a list has that is made of others.
use Rattle.std.proofs.Common.{◌≡◌, ◌⊎◌, ℕ, zero, suc, ◌+◌, ◌<◌, ◌≤◌, List, [], ◌∷◌, ◌++◌, get_or, map, Bool, true, false, cond, refl, ap, sym, ◌∙◌, arith, inl, inr, subst, Some}
use Rattle.std.specs.Prelude.{◌≢◌}
use Rattle.std.specs.List.{Contains, AllPairs, list_all, list_any, filter, flat_map, find, range_with_len}
use Rattle.std.proofs.lemmas.Bool.{cases_order}
use Rattle.std.proofs.lemmas.List.{get_or_default}
use Rattle.std.proofs.lemmas.List.Elements.{All-contains, Contains-get_or, Contains-append_left, Contains-append_right, Contains-append_cases}
use Rattle.std.proofs.lemmas.List.Folds.{Any-from_list_any, list_any-from_Any}
use Rattle.std.proofs.lemmas.List.Sums.{AllPass-from_list_all, list_all-from_AllPass}

-- the element stands here
pub record Placed {A : Type 0} (xs : List A) (x : A) : Type 0 where
  pub front : List A
  pub back : List A
  pub parts : xs ≡ front ++ x ∷ back

pub head_in : {A : Type 0} (x : A) (xs : List A) → Contains (x ∷ xs) x
head_in x xs = (zero, omega arith, refl)

pub tail_in : {A : Type 0} (x : A) (xs : List A) (y : A) → Contains xs y → Contains (x ∷ xs) y
tail_in x xs y (k, l, e) = (suc k, omega (arith, l), e)

pub none_in : {A : Type 0} (y : A) → Contains [] y → ⊥
none_in y (k, l, e) = omega (arith, l)

pub cases_in : {A : Type 0} (x : A) (xs : List A) (y : A) → Contains (x ∷ xs) y → (x ≡ y) ⊎ Contains xs y
cases_in x xs y (zero, l, e) = inl e
cases_in x xs y (suc k, l, e) = inr (k, omega (arith, l), e)

pub placed : {A : Type 0} (xs : List A) (x : A) → Contains xs x → Placed xs x
placed [] x c = absurd (none_in x c)
placed (y ∷ ys) x c =
    elim (cases_in y ys x c) [
      | inl e ↦ record { front = []; back = ys; parts = ap (λ z. z ∷ ys) e }
      | inr d ↦ (let more = placed ys x d in record { front = y ∷ more.front; back = more.back; parts = ap (λ l. y ∷ l) more.parts })
    ]

pub in_middle : {A : Type 0} (front : List A) (x : A) (back : List A) → Contains (front ++ x ∷ back) x
in_middle front x back = Contains-append_right front (x ∷ back) x (head_in x back)

pub all_pass : {A : Type 0} (p : A → Bool) (xs : List A) → list_all p xs ≡ true → (x : A) → Contains xs x → p x ≡ true
all_pass p xs h x c = All-contains (λ y. p y ≡ true) xs x (AllPass-from_list_all p xs h) c

pub pass_all : {A : Type 0} (p : A → Bool) (xs : List A) → ((x : A) → Contains xs x → p x ≡ true) → list_all p xs ≡ true
pass_all p xs h = list_all-from_AllPass p xs (λ k d l. h (get_or xs k d) (Contains-get_or xs k d l))

pub some_passes : {A : Type 0} (p : A → Bool) (xs : List A) → list_any p xs ≡ true → (x : A) × Contains xs x × (p x ≡ true)
some_passes p xs h = let found = Any-from_list_any p xs h in (found.1, (found.0, found.2, found.3), found.4)

pub passes_some : {A : Type 0} (p : A → Bool) (xs : List A) (x : A) → Contains xs x → p x ≡ true → list_any p xs ≡ true
passes_some p xs x (k, l, e) h = list_any-from_Any p xs (k, x, l, e, h)

pub from_map : {A B : Type 0} (f : A → B) (xs : List A) (y : B) → Contains (map f xs) y → (x : A) × Contains xs x × (f x ≡ y)
from_map f [] y c = absurd (none_in y c)
from_map f (x ∷ xs) y c =
    elim (cases_in (f x) (map f xs) y c) [
      | inl e ↦ (x, head_in x xs, e)
      | inr d ↦ (let more = from_map f xs y d in (more.0, tail_in x xs more.0 more.1, more.2))
    ]

pub to_map : {A B : Type 0} (f : A → B) (xs : List A) (x : A) → Contains xs x → Contains (map f xs) (f x)
to_map f [] x c = absurd (none_in x c)
to_map f (y ∷ ys) x c =
    elim (cases_in y ys x c) [
      | inl e ↦ (zero, omega arith, ap f e)
      | inr d ↦ tail_in (f y) (map f ys) (f x) (to_map f ys x d)
    ]

from_filter_at : {A : Type 0} (p : A → Bool) (x : A) (xs : List A) (y : A) (b : Bool) → p x ≡ b →
    (Contains (filter p xs) y → Contains xs y × (p y ≡ true)) → Contains (cond b (x ∷ filter p xs) (filter p xs)) y → Contains (x ∷ xs) y × (p y ≡ true)
from_filter_at p x xs y true h more c =
    elim (cases_in x (filter p xs) y c) [
      | inl e ↦ ((zero, omega arith, e), ap p (sym e) ∙ h)
      | inr d ↦ (let rest = more d in (tail_in x xs y rest.0, rest.1))
    ]
from_filter_at p x xs y false h more c = let rest = more c in (tail_in x xs y rest.0, rest.1)

pub from_filter : {A : Type 0} (p : A → Bool) (xs : List A) (y : A) → Contains (filter p xs) y → Contains xs y × (p y ≡ true)
from_filter p [] y c = absurd (none_in y c)
from_filter p (x ∷ xs) y c = from_filter_at p x xs y (p x) refl (from_filter p xs y) c

to_filter_at : {A : Type 0} (p : A → Bool) (x : A) (xs : List A) (y : A) (b : Bool) → p x ≡ b → p y ≡ true →
    (Contains xs y → Contains (filter p xs) y) → Contains (x ∷ xs) y → Contains (cond b (x ∷ filter p xs) (filter p xs)) y
to_filter_at p x xs y true h passes more c =
    elim (cases_in x xs y c) [
      | inl e ↦ (zero, omega arith, e)
      | inr d ↦ tail_in x (filter p xs) y (more d)
    ]
to_filter_at p x xs y false h passes more c =
    elim (cases_in x xs y c) [
      | inl e ↦ absurd (let clash : true ≡ false = sym passes ∙ ap p (sym e) ∙ h in cc)
      | inr d ↦ more d
    ]

pub to_filter : {A : Type 0} (p : A → Bool) (xs : List A) (y : A) → p y ≡ true → Contains xs y → Contains (filter p xs) y
to_filter p [] y h c = absurd (none_in y c)
to_filter p (x ∷ xs) y h c = to_filter_at p x xs y (p x) refl h (to_filter p xs y h) c

pub from_flat_map : {A B : Type 0} (f : A → List B) (xs : List A) (y : B) → Contains (flat_map f xs) y → (x : A) × Contains xs x × Contains (f x) y
from_flat_map f [] y c = absurd (none_in y c)
from_flat_map f (x ∷ xs) y c =
    elim (Contains-append_cases (f x) (flat_map f xs) y c) [
      | inl here ↦ (x, head_in x xs, here)
      | inr d ↦ (let more = from_flat_map f xs y d in (more.0, tail_in x xs more.0 more.1, more.2))
    ]

pub to_flat_map : {A B : Type 0} (f : A → List B) (xs : List A) (x : A) (y : B) → Contains xs x → Contains (f x) y → Contains (flat_map f xs) y
to_flat_map f [] x y c d = absurd (none_in x c)
to_flat_map f (z ∷ zs) x y c d =
    elim (cases_in z zs x c) [
      | inl e ↦ Contains-append_left (f z) (flat_map f zs) y (subst (λ w. Contains (f w) y) (sym e) d)
      | inr rest ↦ Contains-append_right (f z) (flat_map f zs) y (to_flat_map f zs x y rest d)
    ]

found_at : {A : Type 0} (p : A → Bool) (y : A) (ys : List A) (x : A) (b : Bool) → p y ≡ b →
    (find p ys ≡ Some x → Contains ys x × (p x ≡ true)) → cond b (Some y) (find p ys) ≡ Some x → Contains (y ∷ ys) x × (p x ≡ true)
found_at p y ys x true h more e = let same : y ≡ x = cc in ((zero, omega arith, same), ap p (sym same) ∙ h)
found_at p y ys x false h more e = let rest = more e in (tail_in y ys x rest.0, rest.1)

pub found : {A : Type 0} (p : A → Bool) (xs : List A) (x : A) → find p xs ≡ Some x → Contains xs x × (p x ≡ true)
found p [] x e = absurd (cc)
found p (y ∷ ys) x e = found_at p y ys x (p y) refl (found p ys x) e

finds_at : {A : Type 0} (p : A → Bool) (y : A) (ys : List A) (x : A) (b : Bool) → p y ≡ b → p x ≡ true →
    (Contains ys x → find p ys ≡ Some x) → (p y ≡ true → y ≡ x) → Contains (y ∷ ys) x → cond b (Some y) (find p ys) ≡ Some x
finds_at p y ys x true h passes more only c = ap Some (only h)
finds_at p y ys x false h passes more only c =
    elim (cases_in y ys x c) [
      | inl e ↦ absurd (let clash : true ≡ false = sym passes ∙ ap p (sym e) ∙ h in cc)
      | inr d ↦ more d
    ]

-- the one element that passes is found
pub finds : {A : Type 0} (p : A → Bool) (xs : List A) (x : A) → p x ≡ true → ((y : A) → Contains xs y → p y ≡ true → y ≡ x) → Contains xs x → find p xs ≡ Some x
finds p [] x h only c = absurd (none_in x c)
finds p (y ∷ ys) x h only c =
    finds_at p y ys x (p y) refl h (finds p ys x h (λ z d. only z (tail_in y ys z d))) (only y (head_in y ys)) c

pub from_range : (a n k : ℕ) → Contains (range_with_len a n) k → (a ≤ k) × (k < a + n)
from_range a zero k c = absurd (none_in k c)
from_range a (suc n) k c =
    elim (cases_in a (range_with_len (a + 1) n) k c) [
      | inl e ↦ (omega (arith, e), omega (arith, e))
      | inr d ↦ (let more = from_range (a + 1) n k d in (omega (arith, more.0), omega (arith, more.1)))
    ]

pub to_range : (a n k : ℕ) → a ≤ k → k < a + n → Contains (range_with_len a n) k
to_range a zero k low high = absurd (omega (arith, low, high))
to_range a (suc n) k low high =
    elim (cases_order a k) [
      | inl e ↦ (zero, omega arith, e)
      | inr (inl l) ↦ tail_in a (range_with_len (a + 1) n) k (to_range (a + 1) n k (omega arith) (omega arith))
      | inr (inr g) ↦ absurd (omega (arith, low, g))
    ]

-- where no two elements have one key, elements of one key are the same
pub same_from_key : {A B : Type 0} (key : A → B) (xs : List A) → AllPairs (λ (x y : A). key x ≢ key y) xs → (x y : A) → Contains xs x → Contains xs y → key x ≡ key y → x ≡ y
same_from_key key xs distinct x y (i, il, ie) (j, jl, je) same =
    elim (cases_order i j) [
      | inl e ↦ sym ie ∙ get_or_default xs i x y il ∙ ap (λ k. get_or xs k y) e ∙ je
      | inr (inl l) ↦ absurd (distinct i j x l jl (ap key ie ∙ same ∙ ap key (sym je) ∙ ap key (get_or_default xs j y x jl)))
      | inr (inr g) ↦ absurd (distinct j i x g il (ap key (get_or_default xs j x y jl) ∙ ap key je ∙ sym same ∙ ap key (sym ie)))
    ]
