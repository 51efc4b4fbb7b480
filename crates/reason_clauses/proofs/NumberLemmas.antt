-- Each operation of a trace has its numbers, and different numbers have different names.
use Rattle.std.proofs.Common.{◌≡◌, ◌<◌, ◌+◌, ℕ, zero, suc, List, [], ◌∷◌, map, length, slice_index_or, get_or, true, ap, sym, ◌∙◌, arith, inl, inr}
use Rattle.std.specs.Prelude.{Some}
use Rattle.std.specs.List.{Contains, slice_get}
use Rattle.std.specs.Option.{option_and_then}
use Rattle.std.specs.Str.{bytes_eq}
use Rattle.std.proofs.lemmas.Option.{option_and_then_some}
use Rattle.trace_semantics.specs.declared.operation.Op.{Op}
use Rattle.trace_semantics.specs.declared.operation.OpName.{OpName}
use Rattle.trace_semantics.specs.declared.trace.Process.{Process}
use Rattle.trace_semantics.specs.Trace.{TraceValue, IsTrace, operation_at, process_named, at_place}
use Rattle.trace_semantics.specs.ValueAfter.{value_left_at}
use Rattle.trace_semantics.proofs.ElementLemmas.{found, finds, same_from_key}
use Rattle.trace_semantics.proofs.NameLemmas.{same_bytes, bytes_same}
use Rattle.restriction.specs.Restriction.{left_by}
use Rattle.order_clauses.specs.Numbered.{named}
use Rattle.reason_clauses.specs.Numbered.{at_number, AreApart}
use Rattle.std.proofs.lemmas.Bool.{cases_order}
use Rattle.std.proofs.lemmas.List.{get_or_default}

-- the name at a place of a list of names, by the process that stands there
pub name_at : (processes : List Process) (q : ℕ) (p : Process) → q < length processes → get_or processes q p ≡ p → slice_index_or (map (λ (x : Process). x.name) processes) q [] ≡ p.name
name_at [] q p low e = absurd (omega (arith, low))
name_at (x ∷ xs) zero p low e = ap (λ (y : Process). y.name) e
name_at (x ∷ xs) (suc q) p low e = name_at xs q p (omega (arith, low)) e

-- a writer of the location by numbers: its process, and its place there
pub record WritesByNumber (t : TraceValue) (location : List ℕ) (w : OpName) (d : ℕ) : Type 0 where
  pub number : ℕ
  pub process : Process
  pub low : number < length t.processes
  pub at : get_or t.processes number process ≡ process
  pub place : ℕ
  pub place_is : w.place ≡ place + 1
  pub leaves : option_and_then (left_by location) (slice_get process.operations place) ≡ Some d
  pub named_so : named t (at_number number (place + 1)) ≡ w

at_place_is : (p : Process) (location : List ℕ) (n d : ℕ) → option_and_then (left_by location) (at_place p.operations n) ≡ Some d → (k : ℕ) × (n ≡ k + 1) × (option_and_then (left_by location) (slice_get p.operations k) ≡ Some d)
at_place_is p location zero d e = absurd (cc)
at_place_is p location (suc k) d e = (k, omega arith, e)

pub writes_by_number : (t : TraceValue) (location : List ℕ) (w : OpName) (d : ℕ) → value_left_at t location w ≡ Some d → WritesByNumber t location w d
writes_by_number t location w d e =
    option_and_then_some (left_by location) (operation_at t w) d e (λ op known leaves.
    option_and_then_some (λ (p : Process). at_place p.operations w.place) (process_named t w.process) op known (λ p found_it placed_it.
    let at = found (λ (q : Process). bytes_eq q.name w.process) t.processes p found_it in
    let index = at.0 in
    let place = at_place_is p location w.place d (ap (option_and_then (left_by location)) placed_it ∙ leaves) in
    let called = same_bytes p.name w.process at.1 in
    record {
      number = index.0;
      process = p;
      low = index.1;
      at = index.2;
      place = place.0;
      place_is = place.1;
      leaves = place.2;
      named_so = λ i. record { process = (name_at t.processes index.0 p index.1 index.2 ∙ called) i; place = sym place.1 i };
    }))

-- what stands at a place of a process, by its numbers
pub numbered_place : (t : TraceValue) → IsTrace t → (q k : ℕ) (p : Process) → q < length t.processes → get_or t.processes q p ≡ p → operation_at t (named t (at_number q (k + 1))) ≡ slice_get p.operations k
numbered_place t ok q k p low at =
    let name = name_at t.processes q p low at in
    let wanted = slice_index_or (map (λ (x : Process). x.name) t.processes) q [] in
    let listed : Contains t.processes p = (q, low, at) in
    let only : (x : Process) → Contains t.processes x → bytes_eq x.name wanted ≡ true → x ≡ p = λ x c same.
    same_from_key (λ (y : Process). y.name) t.processes ok.distinct x p c listed (same_bytes x.name wanted same ∙ name) in
    let finds_it : process_named t wanted ≡ Some p = finds (λ (x : Process). bytes_eq x.name wanted) t.processes p (bytes_same p.name wanted (sym name)) only listed in
    let next : k + 1 ≡ suc k = omega arith in
    ap (option_and_then (λ (x : Process). at_place x.operations (k + 1))) finds_it ∙ ap (at_place p.operations) next

-- the operation at a place of a process, by its numbers
pub numbered_operation : (t : TraceValue) → IsTrace t → (q k : ℕ) (p : Process) (op : Op) → q < length t.processes → get_or t.processes q p ≡ p → slice_get p.operations k ≡ Some op → operation_at t (named t (at_number q (k + 1))) ≡ Some op
numbered_operation t ok q k p op low at here = numbered_place t ok q k p low at ∙ here

pub nobody : Process
nobody = record { name = []; operations = [] }

-- different numbers have different names
pub numbers_apart : (t : TraceValue) → IsTrace t → AreApart t
numbers_apart t ok m n first second same =
    elim (cases_order m.process n.process) [
      | inl e ↦ (λ i. record { process = e i; place = places i })
      | inr (inl low) ↦ absurd (differ m.process n.process low second.0 (ap (λ (x : OpName). x.process) same))
      | inr (inr high) ↦ absurd (differ n.process m.process high first.0 (sym (ap (λ (x : OpName). x.process) same)))
    ]
  where
    places : m.place ≡ n.place
    places = ap (λ (x : OpName). x.place) same

    differ : (i j : ℕ) → i < j → j < length t.processes → slice_index_or (map (λ (x : Process). x.name) t.processes) i [] ≡ slice_index_or (map (λ (x : Process). x.name) t.processes) j [] → ⊥
    differ i j low most e =
        ok.distinct i j nobody low most (sym (name_at t.processes i (get_or t.processes i nobody) (omega (arith, low, most)) (get_or_default t.processes i (get_or t.processes i nobody) nobody (omega (arith, low, most)))) ∙ e ∙ name_at t.processes j (get_or t.processes j nobody) most (get_or_default t.processes j (get_or t.processes j nobody) nobody most))
