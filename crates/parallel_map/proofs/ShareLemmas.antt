-- Results at places, and lists of them.
use Rattle.std.proofs.Common.{◌≡◌, ℕ, zero, suc, ◌+◌, ◌<◌, List, [], ◌∷◌, ◌++◌, Option, Some, None, length, get_or, take, drop, replicate, set, refl, sym, ap, ◌∙◌, subst, map, arith}
use Rattle.std.specs.List.{All, AllZip, Contains, slice_get}
use Rattle.std.specs.Option.{IfSome}
use Rattle.std.specs.Prelude.{Result, Ok, Err, IfOk, MatchResult}
use Rattle.std.specs.declared.vec.Vec.{Vec}
use Rattle.std.proofs.lemmas.List.{get_or_at, length-append}
use Rattle.std.proofs.lemmas.List.Elements.{All-nil, All-cons}

module _ {I : Type 0} where
  -- the item that was read stands there
  pub read : (items : List I) (place : ℕ) (item : I) → place < length items → item ≡ get_or items place item → slice_get items place ≡ Some item
  read [] place item within is = absurd (omega (arith, within))
  read (x ∷ items) zero item within is = ap Some (sym is)
  read (x ∷ items) (suc place) item within is = read items place item (omega (arith, within)) is

  -- where an item stands, the list goes on
  pub within : (items : List I) (place : ℕ) (item : I) → slice_get items place ≡ Some item → place < length items
  within [] place item is = absurd (cc)
  within (x ∷ items) zero item is = omega arith
  within (x ∷ items) (suc place) item is = (let l = within items place item is in omega (arith, l))

module _ {I T : Type 0} (R : I → T → Type 0) where
  -- nothing is found yet
  pub nothing : (items : List I) (n : ℕ) → n ≡ length items → AllZip (λ item slot. IfSome slot (R item)) items (replicate n None)
  nothing [] zero is = tt
  nothing [] (suc n) is = absurd (omega (arith, is))
  nothing (x ∷ items) zero is = absurd (omega (arith, is))
  nothing (x ∷ items) (suc n) is = (tt, nothing items n (omega (arith, is)))

  -- a result is put at the place of its item
  pub put_there : (items : List I) (found : List (Option T)) (place : ℕ) (item : I) (result : T) → slice_get items place ≡ Some item → R item result
      → AllZip (λ item slot. IfSome slot (R item)) items found → AllZip (λ item slot. IfSome slot (R item)) items (set found place (Some result))
  put_there [] found place item result is so each = absurd (cc)
  put_there (x ∷ items) [] place item result is so each = absurd each
  put_there (x ∷ items) (o ∷ found) zero item result is so each = (let same : x ≡ item = cc in subst (λ i. R i result) (sym same) so, each.1)
  put_there (x ∷ items) (o ∷ found) (suc place) item result is so each = (each.0, put_there items found place item result is so each.1)

  -- what is found at the first item that is left
  pub next_found : (items : List I) (place : ℕ) (item : I) (slot : Option T) (rest : List (Option T)) → item ≡ get_or items place item
      → AllZip (λ item slot. IfSome slot (R item)) (drop place items) (slot ∷ rest) → IfSome slot (R item)
  next_found [] zero item slot rest is each = absurd each
  next_found [] (suc place) item slot rest is each = absurd each
  next_found (x ∷ items) zero item slot rest is each = subst (λ i. IfSome slot (R i)) (sym is) each.0
  next_found (x ∷ items) (suc place) item slot rest is each = next_found items place item slot rest is each

  -- there is an item for it
  pub next_within : (items : List I) (place : ℕ) (slot : Option T) (rest : List (Option T))
      → AllZip (λ item slot. IfSome slot (R item)) (drop place items) (slot ∷ rest) → place < length items
  next_within [] zero slot rest each = absurd each
  next_within [] (suc place) slot rest each = absurd each
  next_within (x ∷ items) zero slot rest each = omega arith
  next_within (x ∷ items) (suc place) slot rest each = (let l = next_within items place slot rest each in omega (arith, l))

  -- and the others are left
  pub next_rest : (items : List I) (place n : ℕ) (slot : Option T) (rest : List (Option T)) → n ≡ place + 1
      → AllZip (λ item slot. IfSome slot (R item)) (drop place items) (slot ∷ rest) → AllZip (λ item slot. IfSome slot (R item)) (drop n items) rest
  next_rest [] zero n slot rest is each = absurd each
  next_rest [] (suc place) n slot rest is each = absurd each
  next_rest (x ∷ items) zero zero slot rest is each = absurd (omega (arith, is))
  next_rest (x ∷ items) zero (suc n) slot rest is each = (let none : n ≡ 0 = omega (arith, is) in rw none each.1)
  next_rest (x ∷ items) (suc place) zero slot rest is each = absurd (omega (arith, is))
  next_rest (x ∷ items) (suc place) (suc n) slot rest is each = next_rest items place n slot rest (omega (arith, is)) each

  -- one result more
  pub one_more : (items : List I) (place n : ℕ) (results : List T) (item : I) (result : T) → n ≡ place + 1 → place < length items → item ≡ get_or items place item
      → R item result → AllZip R (take place items) results → AllZip R (take n items) (results ++ result ∷ [])
  one_more [] place n results item result is within read so each = absurd (omega (arith, within))
  one_more (x ∷ items) zero zero results item result is within read so each = absurd (omega (arith, is))
  one_more (x ∷ items) zero (suc n) [] item result is within read so each = (let none : n ≡ 0 = omega (arith, is) in rw none (subst (λ i. R i result) read so, tt))
  one_more (x ∷ items) zero (suc n) (r ∷ results) item result is within read so each = absurd each
  one_more (x ∷ items) (suc place) zero results item result is within read so each = absurd (omega (arith, is))
  one_more (x ∷ items) (suc place) (suc n) [] item result is within read so each = absurd each
  one_more (x ∷ items) (suc place) (suc n) (r ∷ results) item result is within read so each =
      (each.0, one_more items place n results item result (omega (arith, is)) (omega (arith, within)) read so each.1)

  -- if nothing is left, all have a result
  pub all_taken : (items : List I) (place : ℕ) (rest : List (Option T)) (results : List T) → length rest ≡ 0
      → AllZip (λ item slot. IfSome slot (R item)) (drop place items) rest → AllZip R (take place items) results → AllZip R items results
  all_taken [] zero rest results none left each = each
  all_taken [] (suc place) rest results none left each = each
  all_taken (x ∷ items) zero [] results none left each = absurd left
  all_taken (x ∷ items) zero (slot ∷ rest) results none left each = absurd (omega (arith, none))
  all_taken (x ∷ items) (suc place) rest [] none left each = absurd each
  all_taken (x ∷ items) (suc place) rest (r ∷ results) none left each = (each.0, all_taken items place rest results none left each.1)

module _ {W S : Type 0} (E : Type 0) (Q : S → Type 0) where
  -- what is so of each share that is there is so of all of them
  each_share : (workers : List W) (shares : List S) → AllZip {A = W} {B = Result S E} (λ w r. IfOk r Q) workers (map Ok shares) → All Q shares
  each_share [] [] each = All-nil Q
  each_share [] (s ∷ shares) each = absurd each
  each_share (w ∷ workers) [] each = absurd each
  each_share (w ∷ workers) (s ∷ shares) each = All-cons Q s shares each.0 (each_share workers shares each.1)

module _ {W S E A : Type 0} (Q : S → Type 0) where
  pub all_shares : (workers : List W) (answers : List (Result S E)) (result : Result (Vec S A) E) → AllZip (λ w r. IfOk r Q) workers answers
      → MatchResult result (λ v. (shares : List S) × (answers ≡ map Ok shares) × (v.items ≡ shares)) (λ e. Contains answers (Err e))
      → IfOk result (λ v. All Q v.items)
  all_shares workers answers (Ok v) each is = subst (λ l. All Q l) (sym is.2) (each_share E Q workers is.0 (subst (λ l. AllZip {A = W} {B = Result S E} (λ w r. IfOk r Q) workers l) is.1 each))
  all_shares workers answers (Err e) each is = tt

module _ {X : Type 0} (P : X → Type 0) where
  -- what is so of all is so of the element at the end of this prefix
  pub front_has : (xs front : List X) (x : X) (rest : List X) → xs ≡ front ++ x ∷ rest → All P xs → P x
  front_has xs front x rest is all =
      let there : get_or xs (length front) x ≡ x = ap (λ l. get_or l (length front) x) is ∙ get_or_at front x rest x (length front) refl in
      let here : length front < length xs = omega (arith, ap length is, length-append front (x ∷ rest)) in
      subst P there (all (length front) x here)
