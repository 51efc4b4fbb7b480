-- Who writes a location last, and what it holds then.
use Rattle.std.proofs.Common.{◌≡◌, ℕ, List, [], ◌∷◌, ◌++◌, Bool, true, false, cond, refl, ap, sym, ◌∙◌, inl, inr}
use Rattle.std.specs.Prelude.{Option, Some, None, is_some}
use Rattle.std.specs.List.{Contains, filter, filter_map, cons_option, last_or}
use Rattle.trace_semantics.specs.declared.operation.OpName.{OpName}
use Rattle.trace_semantics.specs.Trace.{TraceValue, value_of}
use Rattle.trace_semantics.specs.ValueAfter.{value_left_at, value_after, last_writer}
use Rattle.trace_semantics.proofs.ElementLemmas.{cases_in, none_in, head_in, tail_in}

-- the function gives nothing at any of these
abbrev pub GivesNone : {A B : Type 0} → (A → Option B) → List A → Type 0
GivesNone {A} {B} f xs = (x : A) → Contains xs x → f x ≡ None

-- the last element at which the function gives something
pub record IsLast {A B : Type 0} (f : A → Option B) (xs : List A) (x : A) (y : B) : Type 0 where
  pub front : List A
  pub back : List A
  pub parts : xs ≡ front ++ x ∷ back
  pub gives : f x ≡ Some y
  pub none_behind : GivesNone f back

none_rest : {A B : Type 0} (f : A → Option B) (x : A) (xs : List A) → GivesNone f (x ∷ xs) → GivesNone f xs
none_rest f x xs h y c = h y (tail_in x xs y c)

none_mapped : {A B : Type 0} (f : A → Option B) (o : Option B) (xs : List A) → GivesNone f xs → last_or o (filter_map f xs) ≡ o
none_mapped f o [] h = refl
none_mapped f o (x ∷ xs) h = ap (λ v. last_or o (cons_option v (filter_map f xs))) (h x (head_in x xs)) ∙ none_mapped f o xs (none_rest f x xs h)

last_mapped_on : {B : Type 0} (v o : Option B) (ys : List B) (y : B) → ((u : Option B) → last_or u ys ≡ Some y) → last_or o (cons_option v ys) ≡ Some y
last_mapped_on None o ys y h = h o
last_mapped_on (Some x) o ys y h = h (Some x)

last_mapped : {A B : Type 0} (f : A → Option B) (front : List A) (x : A) (back : List A) (y : B) → f x ≡ Some y → GivesNone f back → (o : Option B) → last_or o (filter_map f (front ++ x ∷ back)) ≡ Some y
last_mapped f [] x back y e h o = ap (λ v. last_or o (cons_option v (filter_map f back))) e ∙ none_mapped f (Some y) back h
last_mapped f (z ∷ front) x back y e h o = last_mapped_on (f z) o (filter_map f (front ++ x ∷ back)) y (last_mapped f front x back y e h)

none_filtered : {A B : Type 0} (f : A → Option B) (o : Option A) (xs : List A) → GivesNone f xs → last_or o (filter (λ z. is_some (f z)) xs) ≡ o
none_filtered f o [] h = refl
none_filtered f o (x ∷ xs) h =
    ap (λ v. last_or o (cond (is_some v) (x ∷ filter (λ z. is_some (f z)) xs) (filter (λ z. is_some (f z)) xs))) (h x (head_in x xs)) ∙ none_filtered f o xs (none_rest f x xs h)

last_filtered_on : {A : Type 0} (b : Bool) (z : A) (o : Option A) (ys : List A) (x : A) → ((u : Option A) → last_or u ys ≡ Some x) → last_or o (cond b (z ∷ ys) ys) ≡ Some x
last_filtered_on true z o ys x h = h (Some z)
last_filtered_on false z o ys x h = h o

last_filtered : {A B : Type 0} (f : A → Option B) (front : List A) (x : A) (back : List A) (y : B) → f x ≡ Some y → GivesNone f back → (o : Option A) → last_or o (filter (λ z. is_some (f z)) (front ++ x ∷ back)) ≡ Some x
last_filtered f [] x back y e h o =
    ap (λ v. last_or o (cond (is_some v) (x ∷ filter (λ z. is_some (f z)) back) (filter (λ z. is_some (f z)) back))) e ∙ none_filtered f (Some x) back h
last_filtered f (z ∷ front) x back y e h o =
    last_filtered_on (is_some (f z)) z o (filter (λ w. is_some (f w)) (front ++ x ∷ back)) x (last_filtered f front x back y e h)

-- there is a last one, or there is none
pub data LastOrNone {A B : Type 0} (f : A → Option B) (xs : List A) : Type 0 where
  NoOne : GivesNone f xs → LastOrNone f xs
  Last : (x : A) (y : B) → IsLast f xs x y → LastOrNone f xs

last_more : {A B : Type 0} (f : A → Option B) (x : A) (xs : List A) (v : Option B) → f x ≡ v → LastOrNone f xs → LastOrNone f (x ∷ xs)
last_more f x xs v e (Last z y last) = Last z y (record { front = x ∷ last.front; back = last.back; parts = ap (λ l. x ∷ l) last.parts; gives = last.gives; none_behind = last.none_behind })
last_more f x xs None e (NoOne h) = NoOne (λ y c. elim (cases_in x xs y c) [ inl same ↦ ap f (sym same) ∙ e | inr d ↦ h y d ])
last_more f x xs (Some y) e (NoOne h) = Last x y (record { front = []; back = xs; parts = refl; gives = e; none_behind = h })

pub last_or_none : {A B : Type 0} (f : A → Option B) (xs : List A) → LastOrNone f xs
last_or_none f [] = NoOne (λ y c. absurd (none_in y c))
last_or_none f (x ∷ xs) = last_more f x xs (f x) refl (last_or_none f xs)

-- no operation writes the location: it holds its initial value
pub value_unwritten : (t : TraceValue) (location : List ℕ) (names : List OpName) → GivesNone (value_left_at t location) names → value_after t location names ≡ value_of t.initial location
value_unwritten t location names h = none_mapped (value_left_at t location) (value_of t.initial location) names h

pub writer_unwritten : (t : TraceValue) (location : List ℕ) (names : List OpName) → GivesNone (value_left_at t location) names → last_writer t location names ≡ None
writer_unwritten t location names h = none_filtered (value_left_at t location) None names h

-- it holds what the last writer leaves
pub value_written : (t : TraceValue) (location : List ℕ) (names : List OpName) (w : OpName) (d : ℕ) → IsLast (value_left_at t location) names w d → value_after t location names ≡ Some d
value_written t location names w d last =
    ap (value_after t location) last.parts ∙ last_mapped (value_left_at t location) last.front w last.back d last.gives last.none_behind (value_of t.initial location)

pub writer_written : (t : TraceValue) (location : List ℕ) (names : List OpName) (w : OpName) (d : ℕ) → IsLast (value_left_at t location) names w d → last_writer t location names ≡ Some w
writer_written t location names w d last =
    ap (last_writer t location) last.parts ∙ last_filtered (value_left_at t location) last.front w last.back d last.gives last.none_behind None
