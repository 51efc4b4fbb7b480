-- No operation writes the locations of two final values.
use Rattle.std.proofs.Common.{◌≡◌, ℕ, suc, ◌+◌, ◌<◌, ◌≤◌, List, [], ◌∷◌, length, get_or, Bool, true, false, cond, refl, sym, ap, ◌∙◌, arith}
use Rattle.std.specs.Prelude.{◌≢◌, Option, Some, None, is_some, if◌then◌else◌}
use Rattle.std.specs.List.{AllPairs, filter}
use Rattle.std.specs.Option.{option_and_then}
use Rattle.std.specs.Str.{bytes_eq}
use Rattle.std.proofs.lemmas.List.FromFn.{length-range_with_len}
use Rattle.trace_semantics.proofs.NameLemmas.{same_bytes}
use Rattle.trace_semantics.specs.declared.operation.Op.{Op}
use Rattle.trace_semantics.specs.declared.operation.OpName.{OpName}
use Rattle.trace_semantics.specs.Operation.{location_of, written_value}
use Rattle.trace_semantics.specs.Trace.{TraceValue, IsTrace, operation_at, operation_count}
use Rattle.trace_semantics.specs.ValueAfter.{value_left_at}
use Rattle.var_layout.specs.Numbers.{left_at, name_at, numbers, writers}

-- how many numbers pass one of some tests
module _ {E : Type 0} (p : E → ℕ → Bool) where
  passed : List E → List ℕ → ℕ
  passed [] xs = 0
  passed (e ∷ es) xs = length (filter (p e) xs) + passed es xs

  hits : List E → ℕ → ℕ
  hits [] x = 0
  hits (e ∷ es) x = cond (p e x) 1 0 + hits es x

  none_passed : (es : List E) → passed es [] ≡ 0
  unfolding passed
  none_passed [] = refl
  none_passed (e ∷ es) = ap (λ m. 0 + m) (none_passed es)

  one_counted : (b : Bool) (x : ℕ) (kept : List ℕ) (a h q : ℕ) → a ≡ h + q → length (cond b (x ∷ kept) kept) + a ≡ cond b 1 0 + h + (length kept + q)
  one_counted true x kept a h q e = omega (arith, e)
  one_counted false x kept a h q e = omega (arith, e)

  one_more : (es : List E) (x : ℕ) (xs : List ℕ) → passed es (x ∷ xs) ≡ hits es x + passed es xs
  unfolding passed hits
  one_more [] x xs = refl
  one_more (e ∷ es) x xs = one_counted (p e x) x (filter (p e) xs) (passed es (x ∷ xs)) (hits es x) (passed es xs) (one_more es x xs)

  none_hit : (es : List E) (x : ℕ) → ((k : ℕ) (d : E) → k < length es → p (get_or es k d) x ≡ false) → hits es x ≡ 0
  unfolding hits
  none_hit [] x h = refl
  none_hit (e ∷ es) x h =
      let here : p e x ≡ false = h 0 e (omega arith) in
      let rest : hits es x ≡ 0 = none_hit es x (λ k d l. h (suc k) d (omega (arith, l))) in
      λ i. cond (here i) 1 0 + rest i

  hit_or_not : (b : Bool) (rest : ℕ) → (b ≡ true → rest ≡ 0) → rest ≤ 1 → cond b 1 0 + rest ≤ 1
  hit_or_not true rest h g = omega (arith, h refl)
  hit_or_not false rest h g = omega (arith, g)

  one_hit : (es : List E) (x : ℕ) → AllPairs (λ (d e : E). p d x ≡ true → p e x ≡ false) es → hits es x ≤ 1
  unfolding hits
  one_hit [] x h = omega arith
  one_hit (e ∷ es) x h =
      hit_or_not (p e x) (hits es x) (λ here. none_hit es x (λ k d l. h 0 (suc k) d (omega arith) (omega (arith, l)) here))
      (one_hit es x (λ i j d l m. h (suc i) (suc j) d (omega (arith, l)) (omega (arith, m))))

  few_hits : (es : List E) (xs : List ℕ) → ((x : ℕ) → AllPairs (λ (d e : E). p d x ≡ true → p e x ≡ false) es) → passed es xs ≤ length xs
  few_hits es [] h = omega (arith, none_passed es)
  few_hits es (x ∷ xs) h = omega (arith, one_more es x xs, one_hit es x (h x), few_hits es xs h)

-- no operation writes two locations
apart_at : (a b : List ℕ) → a ≢ b → (op : Op) (x y : Bool) → bytes_eq (location_of op) a ≡ x → bytes_eq (location_of op) b ≡ y → (o : Option ℕ) → is_some (cond x o None) ≡ true → is_some (cond y o None) ≡ false
apart_at a b apart op true true e f o h = absurd (apart (sym (same_bytes (location_of op) a e) ∙ same_bytes (location_of op) b f))
apart_at a b apart op false true e f o h = absurd (cc)
apart_at a b apart op x false e f o h = refl

one_location : (t : TraceValue) (a b : List ℕ) (i : ℕ) → a ≢ b → is_some (left_at t a i) ≡ true → is_some (left_at t b i) ≡ false
one_location t a b i apart = at (name_at t i)
  where
    under : (o : Option Op) → is_some (option_and_then (λ (op : Op). if bytes_eq (location_of op) a then written_value op else None) o) ≡ true → is_some (option_and_then (λ (op : Op). if bytes_eq (location_of op) b then written_value op else None) o) ≡ false
    under None h = refl
    under (Some op) h = apart_at a b apart op (bytes_eq (location_of op) a) (bytes_eq (location_of op) b) refl refl (written_value op) h

    at : (n : Option OpName) → is_some (option_and_then (value_left_at t a) n) ≡ true → is_some (option_and_then (value_left_at t b) n) ≡ false
    at None h = refl
    at (Some n) h = under (operation_at t n) h

abbrev writes_at : TraceValue → List ℕ × ℕ → ℕ → Bool
writes_at t entry i = is_some (left_at t entry.0 i)

-- how many operations write one of the locations of these values, each as often as it does
pub written_in : TraceValue → List (List ℕ × ℕ) → ℕ
written_in t values = passed (writes_at t) values (numbers t)

pub none_written : (t : TraceValue) → written_in t [] ≡ 0
unfolding written_in passed
none_written t = refl

pub more_written : (t : TraceValue) (entry : List ℕ × ℕ) (values : List (List ℕ × ℕ)) → written_in t (entry ∷ values) ≡ length (writers t entry.0) + written_in t values
unfolding written_in passed
more_written t entry values = refl

pub few_written : (t : TraceValue) → IsTrace t → written_in t t.final_values ≤ operation_count t
unfolding written_in
few_written t ok =
    let all = few_hits (writes_at t) t.final_values (numbers t) (λ x i j d l m. one_location t (get_or t.final_values i d).0 (get_or t.final_values j d).0 x (ok.final_values i j d l m)) in
    omega (arith, all, length-range_with_len 0 (operation_count t))
