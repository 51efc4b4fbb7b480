use Rattle.std.proofs.Common.{◌≡◌, ◌⊎◌, ◌<◌, ◌+◌, ℕ, zero, suc, List, [], ◌∷◌, ◌++◌, length, map, ap, sym, ◌∙◌, arith, inl, inr}
use Rattle.std.specs.Prelude.{◌≢◌, Some, IsSome, is_some}
use Rattle.std.specs.List.{AllPairs, flat_map, range_with_len, slice_get}
use Rattle.std.proofs.lemmas.Option.{slice_get_within, slice_get-get_or}
use Rattle.trace_semantics.specs.declared.operation.OpName.{OpName}
use Rattle.trace_semantics.specs.declared.trace.Process.{Process}
use Rattle.trace_semantics.specs.Trace.{TraceValue, IsTrace, operation_at, operation_names, first_names, operation_count}
use Rattle.trace_semantics.proofs.ElementLemmas.{from_flat_map}
use Rattle.trace_semantics.proofs.NameLemmas.{from_first, listed_known}
use Rattle.restriction.proofs.PlaceLemmas.{in_list}
use Rattle.var_layout.specs.Numbers.{name_at, number_of}
use Rattle.var_layout.proofs.NumberLemmas.{known_number, names_counted}
use Rattle.var_layout.proofs.laws.operations_have_numbers.Goals as goal

-- Each operation has one number.

part : {X : Type 0} (xs ys : List X) (i : ℕ) (x : X) → slice_get (xs ++ ys) i ≡ Some x → (slice_get xs i ≡ Some x) ⊎ ((k : ℕ) × (i ≡ length xs + k) × (slice_get ys k ≡ Some x))
part [] ys i x e = inr (i, omega arith, e)
part (y ∷ xs) ys zero x e = inl e
part (y ∷ xs) ys (suc i) x e =
    elim (part xs ys i x e) [
      | inl f ↦ inl f
      | inr m ↦ inr (m.0, omega (arith, m.1), m.2)
    ]

name_in : (process : List ℕ) (low m i : ℕ) (n : OpName) → slice_get (map (λ (k : ℕ). record { process = process; place = k }) (range_with_len low m)) i ≡ Some n → (n.process ≡ process) × (n.place ≡ low + i)
name_in process low zero i n e = absurd (cc)
name_in process low (suc m) zero n e =
    let same : record { process = process; place = low } ≡ n = cc in
    let place : low ≡ n.place = ap (λ (k : OpName). k.place) same in
    (sym (ap (λ (k : OpName). k.process) same), omega (arith, place))
name_in process low (suc m) (suc i) n e = let more = name_in process (low + 1) m i n e in (more.0, omega (arith, more.1))

abbrev names : List Process → List OpName
names ps = flat_map (λ (p : Process). first_names p.name (length p.operations)) ps

-- no other process has an operation of this process's name
rest_apart : (p : Process) (ps : List Process) → AllPairs (λ (p q : Process). p.name ≢ q.name) (p ∷ ps) → (i : ℕ) (n : OpName) → slice_get (names ps) i ≡ Some n → n.process ≡ p.name → ⊥
rest_apart p ps distinct i n e same =
    let at = from_flat_map (λ (q : Process). first_names q.name (length q.operations)) ps n (in_list (names ps) (suc i) n e) in
    let other = (from_first at.0.name (length at.0.operations) n at.2).0 in
    distinct 0 (suc at.1.0) at.0 (omega arith) (omega (arith, at.1.1)) (sym same ∙ other ∙ ap (λ (q : Process). q.name) (sym at.1.2))

one_place : (ps : List Process) → AllPairs (λ (p q : Process). p.name ≢ q.name) ps → (i j : ℕ) (n : OpName) → slice_get (names ps) i ≡ Some n → slice_get (names ps) j ≡ Some n → i ≡ j
one_place [] distinct i j n e f = absurd (cc)
one_place (p ∷ ps) distinct i j n e f =
    let m = length p.operations in
    elim (part (first_names p.name m) (names ps) i n e) [
      | inl a ↦ elim (part (first_names p.name m) (names ps) j n f) [
        | inl b ↦ (let x = name_in p.name 1 m i n a in let y = name_in p.name 1 m j n b in omega (arith, x.1, y.1))
        | inr b ↦ absurd (rest_apart p ps distinct b.0 n b.2 (name_in p.name 1 m i n a).0)
      ]
      | inr a ↦ elim (part (first_names p.name m) (names ps) j n f) [
        | inl b ↦ absurd (rest_apart p ps distinct a.0 n a.2 (name_in p.name 1 m j n b).0)
        | inr b ↦ (let same = one_place ps (λ k l d less within. distinct (suc k) (suc l) d (omega (arith, less)) (omega (arith, within))) a.0 b.0 n a.2 b.2 in omega (arith, same, a.1, b.1))
      ]
    ]

known_has_number : (t : TraceValue) → IsTrace t → (n : OpName) → IsSome (operation_at t n) → (number_of t n < operation_count t) × (name_at t (number_of t n) ≡ Some n)
known_has_number t ok n known = let number = known_number t n known in (number.within, number.named)

number_has_name : (t : TraceValue) → IsTrace t → (i : ℕ) (n : OpName) → name_at t i ≡ Some n → (number_of t n ≡ i) × (i < operation_count t) × IsSome (operation_at t n)
number_has_name t ok i n e =
    let known = listed_known t ok n (in_list (operation_names t) (suc i) n e) in
    let number = known_number t n known in
    let within = slice_get_within (operation_names t) i n e in
    (one_place t.processes ok.distinct (number_of t n) i n number.named e, omega (arith, within, names_counted t), known)

number_names : (t : TraceValue) (i : ℕ) → i < operation_count t → IsSome (name_at t i)
number_names t i l =
    let d : OpName = record { process = []; place = 0 } in
    ap is_some (slice_get-get_or (operation_names t) i d (omega (arith, l, names_counted t)))

pub returns-clause-known : goal.returns-clause-known
returns-clause-known c = known_has_number

pub returns-clause-numbered : goal.returns-clause-numbered
returns-clause-numbered c = number_has_name

pub returns-clause-named : goal.returns-clause-named
returns-clause-named c = number_names
