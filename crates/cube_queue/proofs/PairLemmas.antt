-- What holds of all pairs of a list, and of all pairs of what a function gives of its elements.
use Rattle.std.proofs.Common.{◌≡◌, ℕ, ◌+◌, ◌<◌, List, [], ◌∷◌, ◌++◌, map, length, get_or, sym, ◌∙◌, ap, subst, arith}
use Rattle.std.specs.List.{All, AllPairs}
use Rattle.std.proofs.lemmas.List.{get_or-map, get_or_append_left, get_or-append-add, length-append, length-map}

module _ {A B : Type 0} (f : A → B) (R : B → B → Type 0) where
  pub pairs_from_map : (xs : List A) → AllPairs R (map f xs) → AllPairs (λ (x y : A). R (f x) (f y)) xs
  pairs_from_map xs pairs i j d apart within =
      let inside : j < length (map f xs) = subst (λ (n : ℕ). j < n) (sym (length-map xs f)) within in
      let first : get_or (map f xs) i (f d) ≡ f (get_or xs i d) = get_or-map f xs i d (f d) (omega (arith, apart, within)) in
      let second : get_or (map f xs) j (f d) ≡ f (get_or xs j d) = get_or-map f xs j d (f d) within in
      subst (λ (y : B). R (f (get_or xs i d)) y) second (subst (λ (x : B). R x (get_or (map f xs) j (f d))) first (pairs i j (f d) apart inside))

  pub pairs_to_map : (xs : List A) → AllPairs (λ (x y : A). R (f x) (f y)) xs → AllPairs R (map f xs)
  pairs_to_map [] pairs i j d apart within = absurd (omega (arith, within))
  pairs_to_map (z ∷ zs) pairs i j d apart within =
      let xs = z ∷ zs in
      let inside : j < length xs = subst (λ (n : ℕ). j < n) (length-map xs f) within in
      let first : get_or (map f xs) i d ≡ f (get_or xs i z) = get_or-map f xs i z d (omega (arith, apart, inside)) in
      let second : get_or (map f xs) j d ≡ f (get_or xs j z) = get_or-map f xs j z d inside in
      subst (λ (y : B). R (get_or (map f xs) i d) y) (sym second) (subst (λ (x : B). R x (f (get_or xs j z))) (sym first) (pairs i j z apart inside))

module _ {A : Type 0} (R : A → A → Type 0) where
  -- the elements before one of them
  pub pairs_before : (before : List A) (x : A) (rest : List A) → AllPairs R (before ++ x ∷ rest) → All (λ (y : A). R y x) before
  pairs_before before x rest pairs i d within =
      let all = before ++ x ∷ rest in
      let long : length all ≡ length before + length (x ∷ rest) = length-append before (x ∷ rest) in
      let inside : length before < length all = omega (arith, long) in
      let first : get_or all i d ≡ get_or before i d = get_or_append_left before (x ∷ rest) d i within in
      let zero_more : length before + 0 ≡ length before = omega arith in
      let second : get_or all (length before) d ≡ x = ap (λ (n : ℕ). get_or all n d) (sym zero_more) ∙ get_or-append-add before (x ∷ rest) 0 d in
      subst (λ (y : A). R (get_or before i d) y) second (subst (λ (y : A). R y (get_or all (length before) d)) first (pairs i (length before) d within inside))
