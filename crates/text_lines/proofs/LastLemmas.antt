-- The last value that the elements of a list give, with one more element.
use Rattle.std.proofs.Common.{◌≡◌, List, [], ◌∷◌, ◌++◌, refl}
use Rattle.std.specs.Prelude.{Option, Some, None}
use Rattle.std.specs.List.{filter_map, cons_option, last_or}

-- the first, if there is one, and else the second
abbrev pub over : {X : Type 0} → Option X → Option X → Option X
over None o = o
over (Some x) o = Some x

last_of_one : {Y : Type 0} (v o : Option Y) → last_or o (cons_option v []) ≡ over v o
last_of_one None o = refl
last_of_one (Some y) o = refl

pub last_given : {X Y : Type 0} (f : X → Option Y) (o : Option Y) (xs : List X) (x : X) → last_or o (filter_map f (xs ++ x ∷ [])) ≡ over (f x) (last_or o (filter_map f xs))
last_given f o [] x = last_of_one (f x) o
last_given {X} {Y} f o (y ∷ ys) x = at (f y) (λ p. last_given f p ys x)
  where
    at : (v : Option Y) → ((p : Option Y) → last_or p (filter_map f (ys ++ x ∷ [])) ≡ over (f x) (last_or p (filter_map f ys))) →
        last_or o (cons_option v (filter_map f (ys ++ x ∷ []))) ≡ over (f x) (last_or o (cons_option v (filter_map f ys)))
    at None rest = rest o
    at (Some z) rest = rest (Some z)
