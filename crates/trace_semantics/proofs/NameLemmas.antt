-- The names of operations: which name an operation of a trace, and which lists have them.
use Rattle.std.proofs.Common.{◌≡◌, ℕ, zero, suc, ◌≤◌, List, [], ◌∷◌, length, true, eqb, refl, ap, sym, ◌∙◌, arith, subst}
use Rattle.std.specs.Prelude.{Option, Some, None, IsSome, is_some}
use Rattle.std.specs.List.{Contains, range_with_len}
use Rattle.std.specs.Option.{option_and_then}
use Rattle.std.specs.Str.{bytes_eq}
use Rattle.std.proofs.lemmas.Bool.{and_parts, and_from, eqb-true, eq-eqb}
use Rattle.std.proofs.lemmas.Option.{option_and_then_some, slice_get_within, slice_get-get_or}
use Rattle.std.proofs.lemmas.Slice.Eq.{bytes_eq-Decides}
use Rattle.text_lines.proofs.BoolLemmas.{same_truth}
use Rattle.trace_semantics.specs.declared.operation.OpName.{OpName}
use Rattle.trace_semantics.specs.declared.trace.Process.{Process}
use Rattle.trace_semantics.specs.Judgement.{has_come}
use Rattle.trace_semantics.specs.Operation.{same_op}
use Rattle.trace_semantics.specs.Trace.{TraceValue, IsTrace, at_place, process_named, operation_at, first_names, operation_names}
use Rattle.trace_semantics.proofs.ElementLemmas.{some_passes, passes_some, from_map, to_map, from_flat_map, to_flat_map, found, finds, from_range, to_range, same_from_key}

pub same_bytes : (x y : List ℕ) → bytes_eq x y ≡ true → x ≡ y
same_bytes x y h = (bytes_eq-Decides x y).0 h

pub bytes_same : (x y : List ℕ) → x ≡ y → bytes_eq x y ≡ true
bytes_same x y e = (bytes_eq-Decides x y).1 e

pub bytes_turned : (x y : List ℕ) → bytes_eq x y ≡ bytes_eq y x
bytes_turned x y = same_truth (bytes_eq x y) (bytes_eq y x) (λ h. bytes_same y x (sym (same_bytes x y h))) (λ h. bytes_same x y (sym (same_bytes y x h)))

pub same_name : (m n : OpName) → same_op m n ≡ true → m ≡ n
same_name m n h =
    let parts = and_parts (bytes_eq m.process n.process) (eqb m.place n.place) h in
    let process = same_bytes m.process n.process parts.0 in
    let place = eqb-true m.place n.place parts.1 in
    λ i. record { process = process i; place = place i }

pub name_same : (m n : OpName) → m ≡ n → same_op m n ≡ true
name_same m n e =
    and_from (bytes_eq m.process n.process) (eqb m.place n.place) (bytes_same m.process n.process (ap (λ k. k.process) e)) (eq-eqb m.place n.place (ap (λ k. k.place) e))

pub name_turned : (m n : OpName) → same_op m n ≡ same_op n m
name_turned m n = same_truth (same_op m n) (same_op n m) (λ h. name_same n m (sym (same_name m n h))) (λ h. name_same m n (sym (same_name n m h)))

pub come_in : (names : List OpName) (n : OpName) → has_come names n ≡ true → Contains names n
come_in names n h =
    let at = some_passes (same_op n) names h in
    subst (λ m. Contains names m) (sym (same_name n at.0 at.2)) at.1

pub in_come : (names : List OpName) (n : OpName) → Contains names n → has_come names n ≡ true
in_come names n c = passes_some (same_op n) names n c (name_same n n refl)

-- the first operations of a process
pub from_first : (process : List ℕ) (k : ℕ) (n : OpName) → Contains (first_names process k) n → (n.process ≡ process) × (1 ≤ n.place) × (n.place ≤ k)
from_first process k n c =
    let at = from_map (λ (j : ℕ). record { process = process; place = j }) (range_with_len 1 k) n c in
    let within = from_range 1 k at.0 at.1 in
    let place : at.0 ≡ n.place = ap (λ (m : OpName). m.place) at.2 in
    (sym (ap (λ (m : OpName). m.process) at.2), omega (arith, place, within.0), omega (arith, place, within.1))

pub to_first : (process : List ℕ) (k : ℕ) (n : OpName) → n.process ≡ process → 1 ≤ n.place → n.place ≤ k → Contains (first_names process k) n
to_first process k n e low high =
    subst (λ p. Contains (first_names p k) n) e (to_map (λ (j : ℕ). record { process = n.process; place = j }) (range_with_len 1 k) n.place (to_range 1 k n.place low (omega (arith, high))))

place_within : {X : Type 0} (xs : List X) (k : ℕ) (x : X) → at_place xs k ≡ Some x → (1 ≤ k) × (k ≤ length xs)
place_within xs zero x e = absurd (cc)
place_within xs (suc k) x e = let l = slice_get_within xs k x e in (omega arith, omega (arith, l))

pub within_place : {X : Type 0} (xs : List X) (k : ℕ) → 1 ≤ k → k ≤ length xs → IsSome (at_place xs k)
within_place xs zero low high = absurd (omega (arith, low))
within_place [] (suc k) low high = absurd (omega (arith, high))
within_place (x ∷ xs) (suc k) low high = ap is_some (slice_get-get_or (x ∷ xs) k x (omega (arith, high)))

-- a process of the trace has this name and an operation at this place
pub record Named (t : TraceValue) (n : OpName) : Type 0 where
  pub process : Process
  pub listed : Contains t.processes process
  pub called : process.name ≡ n.process
  pub least : 1 ≤ n.place
  pub most : n.place ≤ length process.operations

pub some_value : {X : Type 0} (o : Option X) → IsSome o → (x : X) × (o ≡ Some x)
some_value None h = absurd (cc)
some_value (Some x) h = (x, refl)

pub known_named : (t : TraceValue) (n : OpName) → IsSome (operation_at t n) → Named t n
known_named t n h =
    let op = some_value (operation_at t n) h in
    option_and_then_some (λ (p : Process). at_place p.operations n.place) (process_named t n.process) op.0 op.1 (λ p found_it placed_it.
    let at = found (λ (q : Process). bytes_eq q.name n.process) t.processes p found_it in
    let within = place_within p.operations n.place op.0 placed_it in
    record { process = p; listed = at.0; called = same_bytes p.name n.process at.1; least = within.0; most = within.1 })

pub named_known : (t : TraceValue) → IsTrace t → (n : OpName) → Named t n → IsSome (operation_at t n)
named_known t ok n at =
    let only : (q : Process) → Contains t.processes q → bytes_eq q.name n.process ≡ true → q ≡ at.process = λ q c same.
    same_from_key (λ (p : Process). p.name) t.processes ok.distinct q at.process c at.listed (same_bytes q.name n.process same ∙ sym at.called) in
    let finds_it = finds (λ (q : Process). bytes_eq q.name n.process) t.processes at.process (bytes_same at.process.name n.process at.called) only at.listed in
    ap (λ o. is_some (option_and_then (λ (p : Process). at_place p.operations n.place) o)) finds_it ∙ within_place at.process.operations n.place at.least at.most

-- the names of all operations are those that name one
pub listed_known : (t : TraceValue) → IsTrace t → (n : OpName) → Contains (operation_names t) n → IsSome (operation_at t n)
listed_known t ok n c =
    let at = from_flat_map (λ (p : Process). first_names p.name (length p.operations)) t.processes n c in
    let within = from_first at.0.name (length at.0.operations) n at.2 in
    named_known t ok n (record { process = at.0; listed = at.1; called = sym within.0; least = within.1; most = within.2 })

pub known_listed : (t : TraceValue) (n : OpName) → IsSome (operation_at t n) → Contains (operation_names t) n
known_listed t n h =
    let at = known_named t n h in
    to_flat_map (λ (p : Process). first_names p.name (length p.operations)) t.processes at.process n at.listed
    (to_first at.process.name (length at.process.operations) n (sym at.called) at.least at.most)

-- an earlier operation of a known one's process is known
pub earlier_known : (t : TraceValue) → IsTrace t → (m n : OpName) → IsSome (operation_at t n) → m.process ≡ n.process → 1 ≤ m.place → m.place ≤ n.place → IsSome (operation_at t m)
earlier_known t ok m n h same low high =
    let at = known_named t n h in
    named_known t ok m (record { process = at.process; listed = at.listed; called = at.called ∙ sym same; least = low; most = omega (arith, at.most, high) })
