-- The numbers of operations and their names.
use Rattle.std.proofs.Common.{◌≡◌, ℕ, zero, suc, ◌+◌, ◌<◌, List, [], ◌∷◌, ◌++◌, length, Bool, true, false, cond, not, refl, ap, sym, ◌∙◌, arith, inl, inr, subst}
use Rattle.std.specs.Prelude.{◌≢◌, Some, IsSome}
use Rattle.std.specs.List.{Contains, AllPairs, flat_map, slice_get, position_or_len}
use Rattle.std.proofs.lemmas.Bool.{cases_order}
use Rattle.std.proofs.lemmas.List.FromFn.{length-map-range_with_len, get_or-map-range_with_len}
use Rattle.std.proofs.lemmas.Option.{slice_get_within, slice_get-get_or}
use Rattle.trace_semantics.specs.declared.operation.OpName.{OpName}
use Rattle.trace_semantics.specs.declared.trace.Process.{Process}
use Rattle.trace_semantics.specs.Interleaving.{StandsBefore}
use Rattle.trace_semantics.specs.Operation.{same_op}
use Rattle.trace_semantics.specs.Trace.{TraceValue, IsTrace, operation_at, first_names, operation_names, operation_count}
use Rattle.trace_semantics.proofs.ElementLemmas.{cases_in, none_in, tail_in, from_flat_map}
use Rattle.trace_semantics.proofs.NameLemmas.{same_name, name_same, from_first, listed_known, known_listed}
use Rattle.restriction.proofs.StandLemmas.{none_stands, stands_here, stands_there, Left, Right, Across, stands_joined}
use Rattle.reducer.proofs.PartsLemmas.{rising_places}
use Rattle.var_layout.specs.Numbers.{name_at, number_of}
use Rattle.var_layout.proofs.NumberLemmas.{names_counted}
use Rattle.clause_blocks.proofs.NamesInOrder.StandLemmas.{IsOnce, once_rest}

-- what stands at an index
pub get_listed : {A : Type 0} (xs : List A) (i : ℕ) (x : A) → slice_get xs i ≡ Some x → Contains xs x
get_listed [] i x e = absurd (cc)
get_listed (y ∷ ys) zero x e = (zero, omega arith, cc)
get_listed (y ∷ ys) (suc i) x e = tail_in y ys x (get_listed ys i x e)

pub listed_get : {A : Type 0} (xs : List A) (x : A) → Contains xs x → (i : ℕ) × (slice_get xs i ≡ Some x)
listed_get [] x c = absurd (none_in x c)
listed_get (y ∷ ys) x c =
    elim (cases_in y ys x c) [
      | inl e ↦ (zero, ap Some e)
      | inr d ↦ (let more = listed_get ys x d in (suc more.0, more.1))
    ]

pub get_left : {A : Type 0} (xs ys : List A) (i : ℕ) → i < length xs → slice_get (xs ++ ys) i ≡ slice_get xs i
get_left [] ys i h = absurd (omega (arith, h))
get_left (x ∷ xs) ys zero h = refl
get_left (x ∷ xs) ys (suc i) h = get_left xs ys i (omega (arith, h))

pub get_right : {A : Type 0} (xs ys : List A) (i : ℕ) → slice_get (xs ++ ys) (length xs + i) ≡ slice_get ys i
get_right [] ys i = let e : 0 + i ≡ i = omega arith in ap (slice_get ys) e
get_right (x ∷ xs) ys i = let e : suc (length xs) + i ≡ suc (length xs + i) = omega arith in ap (slice_get (x ∷ (xs ++ ys))) e ∙ get_right xs ys i

pub get_stands : (xs : List OpName) (i j : ℕ) (a b : OpName) → i < j → slice_get xs i ≡ Some a → slice_get xs j ≡ Some b → StandsBefore xs a b
get_stands [] i j a b h e f = absurd (cc)
get_stands (x ∷ xs) i zero a b h e f = absurd (omega (arith, h))
get_stands (x ∷ xs) zero (suc j) a b h e f = let same : x ≡ a = cc in subst (λ w. StandsBefore (x ∷ xs) w b) same (stands_here x xs b (get_listed xs j b f))
get_stands (x ∷ xs) (suc i) (suc j) a b h e f = stands_there x xs a b (get_stands xs i j a b (omega (arith, h)) e f)

-- the names of all operations rise within a process
abbrev IsApart : List Process → Type 0
IsApart ps = AllPairs (λ (p q : Process). p.name ≢ q.name) ps

apart_rest : (p : Process) (ps : List Process) → IsApart (p ∷ ps) → IsApart ps
apart_rest p ps apart i j d h l = apart (suc i) (suc j) d (omega (arith, h)) (omega (arith, l))

apart_head : (p : Process) (ps : List Process) → IsApart (p ∷ ps) → (q : Process) → Contains ps q → p.name ≡ q.name → ⊥
apart_head p ps apart q (k, l, e) same = apart zero (suc k) q (omega arith) (omega (arith, l)) (same ∙ ap (λ (w : Process). w.name) (sym e))

rising : (ps : List Process) → IsApart ps → (a b : OpName) → StandsBefore (flat_map (λ (p : Process). first_names p.name (length p.operations)) ps) a b → a.process ≡ b.process → a.place < b.place
rising [] apart a b s same = absurd (none_stands a b s)
rising (p ∷ ps) apart a b s same =
    elim (stands_joined (first_names p.name (length p.operations)) (flat_map (λ (q : Process). first_names q.name (length q.operations)) ps) a b s) [
      | Left here ↦ rising_places p.name 1 (length p.operations) a b here
      | Right there ↦ rising ps (apart_rest p ps apart) a b there same
      | Across c d ↦ (
          let first = from_first p.name (length p.operations) a c in
          let at = from_flat_map (λ (q : Process). first_names q.name (length q.operations)) ps b d in
          let second = from_first at.0.name (length at.0.operations) b at.2 in
          absurd (apart_head p ps apart at.0 at.1 (sym first.0 ∙ same ∙ second.0)))
    ]

pub names_rise : (t : TraceValue) → IsTrace t → (a b : OpName) → StandsBefore (operation_names t) a b → a.process ≡ b.process → a.place < b.place
names_rise t ok a b s same = rising t.processes ok.distinct a b s same

pub names_once : (t : TraceValue) → IsTrace t → IsOnce (operation_names t)
names_once t ok n s = let h = names_rise t ok n n s refl in omega (arith, h)

-- a name has one number
pub one_index : (xs : List OpName) → IsOnce xs → (i j : ℕ) (n : OpName) → slice_get xs i ≡ Some n → slice_get xs j ≡ Some n → i ≡ j
one_index xs once i j n e f =
    elim (cases_order i j) [
      | inl same ↦ same
      | inr (inl h) ↦ absurd (once n (get_stands xs i j n n h e f))
      | inr (inr h) ↦ absurd (once n (get_stands xs j i n n h f e))
    ]

pub one_number : (t : TraceValue) → IsTrace t → (i j : ℕ) (n : OpName) → name_at t i ≡ Some n → name_at t j ≡ Some n → i ≡ j
one_number t ok i j n e f = one_index (operation_names t) (names_once t ok) i j n e f

pub names_apart : (t : TraceValue) → IsTrace t → (i j : ℕ) (m n : OpName) → i ≢ j → name_at t i ≡ Some m → name_at t j ≡ Some n → m ≢ n
names_apart t ok i j m n d e f same = d (one_number t ok i j n (e ∙ ap Some same) f)

position_by : (n x : OpName) (xs : List OpName) (i : ℕ) (b : Bool) → same_op n x ≡ b → b ≡ false → position_or_len (same_op n) xs ≡ i → cond (not b) (1 + position_or_len (same_op n) xs) 0 ≡ suc i
position_by n x xs i true e f g = absurd (cc)
position_by n x xs i false e f g = omega (arith, g)

differs : (n x : OpName) (b : Bool) → same_op n x ≡ b → (n ≡ x → ⊥) → b ≡ false
differs n x true e d = absurd (d (same_name n x e))
differs n x false e d = refl

position_at : (xs : List OpName) → IsOnce xs → (n : OpName) (i : ℕ) → slice_get xs i ≡ Some n → position_or_len (same_op n) xs ≡ i
position_at [] once n i e = absurd (cc)
position_at (x ∷ xs) once n zero e =
    let same : n ≡ x = cc in
    ap (λ b. cond (not b) (1 + position_or_len (same_op n) xs) 0) (name_same n x same)
position_at (x ∷ xs) once n (suc i) e =
    position_by n x xs i (same_op n x) refl
    (differs n x (same_op n x) refl (λ same. once n (subst (λ w. StandsBefore (x ∷ xs) w n) (sym same) (stands_here x xs n (get_listed xs i n e)))))
    (position_at xs (once_rest x xs once) n i e)

pub number_is : (t : TraceValue) → IsTrace t → (i : ℕ) (n : OpName) → name_at t i ≡ Some n → number_of t n ≡ i
number_is t ok i n e = position_at (operation_names t) (names_once t ok) n i e

pub numbered : (t : TraceValue) → IsTrace t → (n : OpName) → IsSome (operation_at t n) → name_at t (number_of t n) ≡ Some n
numbered t ok n h =
    let at = listed_get (operation_names t) n (known_listed t n h) in
    ap (name_at t) (number_is t ok at.0 n at.1) ∙ at.1

pub known_at : (t : TraceValue) → IsTrace t → (i : ℕ) (n : OpName) → name_at t i ≡ Some n → IsSome (operation_at t n)
known_at t ok i n e = listed_known t ok n (get_listed (operation_names t) i n e)

-- the name of an operation of a process
abbrev pub name_in : List ℕ → ℕ → OpName
name_in process k = record { process = process; place = k }

first_counted : (process : List ℕ) (n : ℕ) → length (first_names process n) ≡ n
first_counted process n = length-map-range_with_len (name_in process) 1 n

pub number_within : (t : TraceValue) (i : ℕ) (n : OpName) → name_at t i ≡ Some n → i < operation_count t
number_within t i n e = let h = slice_get_within (operation_names t) i n e in omega (arith, h, names_counted t)

-- the operations of a process have numbers in a row
pub record Row (names : List OpName) (p : Process) : Type 0 where
  pub start : ℕ
  pub at : (k : ℕ) → k < length p.operations → slice_get names (start + k) ≡ Some (name_in p.name (k + 1))

first_at : (name : List ℕ) (n k : ℕ) → k < n → slice_get (first_names name n) k ≡ Some (name_in name (k + 1))
first_at name n k h =
    let within : k < length (first_names name n) = omega (arith, h, first_counted name n) in
    slice_get-get_or (first_names name n) k (name_in name 0) within ∙ ap Some (get_or-map-range_with_len (name_in name) 1 n k (k + 1) (name_in name 0) h (omega arith))

rows : (ps : List Process) (p : Process) → Contains ps p → Row (flat_map (λ (q : Process). first_names q.name (length q.operations)) ps) p
rows [] p c = absurd (none_in p c)
rows (q ∷ qs) p c =
    elim (cases_in q qs p c) [
      | inl e ↦ subst (λ w. Row (flat_map (λ (r : Process). first_names r.name (length r.operations)) (q ∷ qs)) w) e (here q qs)
      | inr d ↦ there q qs p (rows qs p d)
    ]
  where
    here : (q : Process) (qs : List Process) → Row (flat_map (λ (r : Process). first_names r.name (length r.operations)) (q ∷ qs)) q
    here q qs = record {
      start = 0;
      at = λ k h.
          let zero_more : 0 + k ≡ k = omega arith in
          let within : k < length (first_names q.name (length q.operations)) = omega (arith, h, first_counted q.name (length q.operations)) in
          ap (slice_get (first_names q.name (length q.operations) ++ flat_map (λ (r : Process). first_names r.name (length r.operations)) qs)) zero_more
          ∙ get_left (first_names q.name (length q.operations)) (flat_map (λ (r : Process). first_names r.name (length r.operations)) qs) k within
          ∙ first_at q.name (length q.operations) k h;
    }

    there : (q : Process) (qs : List Process) (p : Process) → Row (flat_map (λ (r : Process). first_names r.name (length r.operations)) qs) p → Row (flat_map (λ (r : Process). first_names r.name (length r.operations)) (q ∷ qs)) p
    there q qs p more = record {
      start = length (first_names q.name (length q.operations)) + more.start;
      at = λ k h.
          let e : length (first_names q.name (length q.operations)) + more.start + k ≡ length (first_names q.name (length q.operations)) + (more.start + k) = omega arith in
          ap (slice_get (first_names q.name (length q.operations) ++ flat_map (λ (r : Process). first_names r.name (length r.operations)) qs)) e
          ∙ get_right (first_names q.name (length q.operations)) (flat_map (λ (r : Process). first_names r.name (length r.operations)) qs) (more.start + k)
          ∙ more.at k h;
    }

pub row_of : (t : TraceValue) (p : Process) → Contains t.processes p → Row (operation_names t) p
row_of t p c = rows t.processes p c
