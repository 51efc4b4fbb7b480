-- What a list of locations and values gives a location, from its end on.
use Rattle.std.proofs.Common.{◌≡◌, ◌<◌, ◌≤◌, ◌-◌, ℕ, suc, List, ◌∷◌, length, drop, get_or, Bool, true, false, cond, refl, ap, sym, ◌∙◌, arith}
use Rattle.std.specs.Prelude.{Option, Some, None, find}
use Rattle.std.specs.Option.{option_map}
use Rattle.std.specs.Str.{bytes_eq}
use Rattle.std.proofs.Math.Seq.{drop-cons, drop-length}
use Rattle.trace_semantics.specs.Trace.{value_of}

-- the elements from a place on
pub drop_front : {X : Type 0} (xs : List X) (k : ℕ) (x : X) → 0 < k → k ≤ length xs → x ≡ get_or xs (k - 1) x → drop (k - 1) xs ≡ x ∷ drop k xs
drop_front xs k x p l e =
    let s : suc (k - 1) ≡ k = omega arith in
    drop-cons xs (k - 1) x (omega arith) ∙ (λ i. sym e i ∷ drop (s i) xs)

-- no value yet
pub value_none : (values : List (List ℕ × ℕ)) (location : List ℕ) → value_of (drop (length values) values) location ≡ None
value_none values location = ap (λ entries. value_of entries location) (drop-length values)

-- one more value in front
pub value_step : (values : List (List ℕ × ℕ)) (k : ℕ) (x : List ℕ × ℕ) (location : List ℕ) (old new : Option ℕ) → 0 < k → k ≤ length values → x ≡ get_or values (k - 1) x → (s : List ℕ) → s ≡ x.0 → new ≡ cond (bytes_eq s location) (Some x.1) old → old ≡ value_of (drop k values) location → new ≡ value_of (drop (k - 1) values) location
value_step values k x location old new p l e s named here there =
    here ∙ ap (λ n. cond (bytes_eq n location) (Some x.1) old) named ∙ chosen (bytes_eq x.0 location) ∙ sym (ap (λ entries. value_of entries location) (drop_front values k x p l e))
  where
    chosen : (b : Bool) → cond b (Some x.1) old ≡ option_map (λ (entry : List ℕ × ℕ). entry.1) (cond b (Some x) (find (λ (entry : List ℕ × ℕ). bytes_eq entry.0 location) (drop k values)))
    chosen true = refl
    chosen false = there
