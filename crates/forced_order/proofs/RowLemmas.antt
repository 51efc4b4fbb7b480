-- Rows whose places are forced to stand before: raising keeps them so, and then the rows say no more than the forced order.
use Rattle.std.proofs.Common.{◌≡◌, ℕ, zero, suc, ◌+◌, ◌<◌, ◌≤◌, ◌⊎◌, List, [], ◌∷◌, length, get_or, ap, sym, ◌∙◌, subst, refl, arith, inl, inr}
use Rattle.std.specs.Prelude.{IsSome, Some}
use Rattle.std.specs.List.{Contains, slice_get}
use Rattle.std.specs.Str.{bytes_eq}
use Rattle.std.proofs.lemmas.Bool.{leb-true}
use Rattle.std.proofs.lemmas.List.Elements.{All-contains, Contains-get_or}
use Rattle.std.proofs.lemmas.List.Folds.{find_at}
use Rattle.std.proofs.lemmas.Option.{option_and_then_some, slice_get_within, get_or_from_slice_get}
use Rattle.trace_semantics.specs.declared.operation.OpName.{OpName}
use Rattle.trace_semantics.specs.declared.trace.Process.{Process}
use Rattle.trace_semantics.specs.PairOrder.{order_of}
use Rattle.trace_semantics.specs.Trace.{TraceValue, IsTrace, at_place, process_named, operation_at}
use Rattle.trace_semantics.proofs.ElementLemmas.{found, from_map}
use Rattle.trace_semantics.proofs.KnownOrderLemmas.{both_timed}
use Rattle.trace_semantics.proofs.NameLemmas.{same_bytes, some_value, known_named, named_known}
use Rattle.forced_order.specs.declared.numbered.OperationNumber.{OperationNumber}
use Rattle.forced_order.specs.Closed.{IsClosedStep}
use Rattle.forced_order.specs.Forced.{IsForcedByNumber, AreForced, numbered_pair, numbered_pairs}
use Rattle.forced_order.specs.Order.{IsForced, IsPath, IsStep, IsWithinForced}
use Rattle.forced_order.specs.Raised.{IsRaised}
use Rattle.forced_order.specs.Rows.{OrderValue, HasRow, HasRows, last_before, numbered, ordered_by}
use Rattle.forced_order.proofs.ForcedLemmas.{forced_over, forced_lower}

pub within : {X : Type 0} (xs : List X) (k : ℕ) (x : X) → at_place xs k ≡ Some x → (1 ≤ k) × (k ≤ length xs)
within xs zero x e = absurd (cc)
within xs (suc k) x e = let l = slice_get_within xs k x e in (omega arith, omega (arith, l))

-- a known operation's process stands under its number, and has an operation at its place
pub record Placed (t : TraceValue) (n : OpName) : Type 0 where
  pub process : Process
  pub at : slice_get t.processes (order_of t.processes n.process) ≡ Some process
  pub called : process.name ≡ n.process
  pub least : 1 ≤ n.place
  pub most : n.place ≤ length process.operations

pub placed : (t : TraceValue) (n : OpName) → IsSome (operation_at t n) → Placed t n
placed t n h =
    let op = some_value (operation_at t n) h in
    option_and_then_some (λ (p : Process). at_place p.operations n.place) (process_named t n.process) op.0 op.1 (λ p found_it placed_it.
    let there = found (λ (q : Process). bytes_eq q.name n.process) t.processes p found_it in
    record { process = p; at = sym (find_at (λ (q : Process). bytes_eq q.name n.process) t.processes) ∙ found_it; called = same_bytes p.name n.process there.1; least = (within p.operations n.place op.0 placed_it).0; most = (within p.operations n.place op.0 placed_it).1 })

same_name : (n : OpName) (process : List ℕ) → process ≡ n.process → record { process = process; place = n.place } ≡ n
same_name n process e = λ i. record { process = e i; place = n.place }

-- names that are forced, by numbers
pub forced_numbers : (t : TraceValue) (m n : OpName) → IsSome (operation_at t m) → IsSome (operation_at t n) → IsForced t m n → IsForcedByNumber t (numbered t.processes m) (numbered t.processes n)
forced_numbers t m n h k f =
    let first = placed t m h in
    let second = placed t n k in
    let renamed : IsForced t m (record { process = second.process.name; place = n.place }) = subst (λ (x : OpName). IsForced t m x) (sym (same_name n second.process.name second.called)) f in
    record {
      first = first.process;
      second = second.process;
      first_at = first.at;
      second_at = second.at;
      forced = subst (λ (x : OpName). IsForced t x (record { process = second.process.name; place = n.place })) (sym (same_name m first.process.name first.called)) renamed;
    }

pub one_process : (t : TraceValue) (k : ℕ) (p q : Process) → slice_get t.processes k ≡ Some p → slice_get t.processes k ≡ Some q → p ≡ q
one_process t k p q h g = let same : Some p ≡ Some q = sym h ∙ g in cc

pub forced_through : (t : TraceValue) (m x n : OperationNumber) → IsForcedByNumber t m x → IsForcedByNumber t x n → IsForcedByNumber t m n
forced_through t m x n h k =
    let same = one_process t x.process k.first h.second k.first_at h.second_at in
    let after : IsForced t (record { process = h.second.name; place = x.place }) (record { process = k.second.name; place = n.place }) =
    subst (λ (p : Process). IsForced t (record { process = p.name; place = x.place }) (record { process = k.second.name; place = n.place })) same k.forced in
    record {
      first = h.first;
      second = k.second;
      first_at = h.first_at;
      second_at = k.second_at;
      forced = forced_over t (record { process = h.first.name; place = m.place }) (record { process = h.second.name; place = x.place }) (record { process = k.second.name; place = n.place }) h.forced after;
    }

-- a place that is raised to one that is forced to stand before
pub raised_to : (t : TraceValue) (old new : OrderValue) (at : OperationNumber) (process place : ℕ) → (place ≡ 0) ⊎ IsForcedByNumber t (record { process = process; place = place }) at → IsRaised old new at process place → AreForced t old → AreForced t new
raised_to t old new at process place forced raised given n q =
    elim (raised n q) [
      | inl same ↦ subst (λ l. (l ≡ 0) ⊎ IsForcedByNumber t (record { process = q; place = l }) n) (sym same) (given n q)
      | inr here ↦ (let one : at ≡ n = λ i. record { process = sym here.0 i; place = sym here.1 i } in
          let there : (place ≡ 0) ⊎ IsForcedByNumber t (record { process = q; place = place }) n =
          subst (λ (x : OperationNumber). (place ≡ 0) ⊎ IsForcedByNumber t (record { process = q; place = place }) x) one (subst (λ p. (place ≡ 0) ⊎ IsForcedByNumber t (record { process = p; place = place }) at) (sym here.2) forced) in
          subst (λ l. (l ≡ 0) ⊎ IsForcedByNumber t (record { process = q; place = l }) n) (sym here.3) there)
    ]

-- a place that is raised to one before an operation that is forced to stand before
pub raised_over : (t : TraceValue) (old new : OrderValue) (first second : OperationNumber) (process place : ℕ) → IsForcedByNumber t first second → place ≡ last_before old first process → IsRaised old new second process place → AreForced t old → AreForced t new
raised_over t old new first second process place forced is raised given =
    let before : (place ≡ 0) ⊎ IsForcedByNumber t (record { process = process; place = place }) first = subst (λ l. (l ≡ 0) ⊎ IsForcedByNumber t (record { process = process; place = l }) first) (sym is) (given first process) in
    let through : (place ≡ 0) ⊎ IsForcedByNumber t (record { process = process; place = place }) second = elim before [
      | inl none ↦ inl none
      | inr there ↦ inr (forced_through t (record { process = process; place = place }) first second there forced)
    ] in
    raised_to t old new second process place through raised given

first_known : (t : TraceValue) → IsTrace t → (m n : OpName) → IsStep t m n → IsSome (operation_at t m)
first_known t ok m n (inl h) = h.first
first_known t ok m n (inr (inl c)) = (All-contains (λ (pair : OpName × OpName). IsSome (operation_at t pair.0) × IsSome (operation_at t pair.1)) t.before (m, n) ok.known c).0
first_known t ok m n (inr (inr h)) = (both_timed t m n h).0

pub path_known : (t : TraceValue) → IsTrace t → (m : OpName) (between : List OpName) (n : OpName) → IsPath t m between n → IsSome (operation_at t m)
path_known t ok m [] n h = first_known t ok m n h
path_known t ok m (x ∷ between) n h = first_known t ok m x h.0

-- the pairs of a trace are forced
pub pair_forced : (t : TraceValue) → IsTrace t → (pair : OperationNumber × OperationNumber) → Contains (numbered_pairs t) pair → IsForcedByNumber t pair.0 pair.1
pair_forced t ok pair c =
    let of = from_map (numbered_pair t.processes) t.before pair c in
    let known = All-contains (λ (p : OpName × OpName). IsSome (operation_at t p.0) × IsSome (operation_at t p.1)) t.before of.0 ok.known of.1 in
    let forced = forced_numbers t of.0.0 of.0.1 known.0 known.1 ([], inr (inl of.1)) in
    subst (λ (p : OperationNumber × OperationNumber). IsForcedByNumber t p.0 p.1) of.2 forced

pub pair_forced_at : (t : TraceValue) → IsTrace t → (pairs : List (OperationNumber × OperationNumber)) (k : ℕ) (d : OperationNumber × OperationNumber) → pairs ≡ numbered_pairs t → k < length pairs → IsForcedByNumber t (get_or pairs k d).0 (get_or pairs k d).1
pair_forced_at t ok pairs k d e l = pair_forced t ok (get_or pairs k d) (subst (λ l. Contains l (get_or pairs k d)) e (Contains-get_or pairs k d l))

-- an operation is forced to stand before the next of its process
pub next_forced : (t : TraceValue) → IsTrace t → (p : Process) (k place : ℕ) → slice_get t.processes k ≡ Some p → 1 ≤ place → place < length p.operations →
    IsForcedByNumber t (record { process = k; place = place }) (record { process = k; place = place + 1 })
next_forced t ok p k place at low less =
    let listed : Contains t.processes p = (k, slice_get_within t.processes k p at, get_or_from_slice_get t.processes k p p at) in
    let m : OpName = record { process = p.name; place = place } in
    let n : OpName = record { process = p.name; place = place + 1 } in
    let known : IsSome (operation_at t m) = named_known t ok m (record { process = p; listed = listed; called = refl; least = low; most = omega (arith, less) }) in
    let follows : IsSome (operation_at t n) = named_known t ok n (record { process = p; listed = listed; called = refl; least = omega arith; most = omega (arith, less) }) in
    record { first = p; second = p; first_at = at; second_at = at; forced = ([], inl (record { first = known; second = follows; process = refl; lower = omega arith })) }

few_process : (t : TraceValue) → IsTrace t → (m : OpName) → IsSome (operation_at t m) → order_of t.processes m.process < 64
few_process t ok m h = omega (arith, slice_get_within t.processes (order_of t.processes m.process) (placed t m h).process (placed t m h).at, ok.few_processes)

-- what is shown of a pair whose second operation has a row, and whose processes are few
pub pair_closed : (t : TraceValue) → IsTrace t → (pairs : List (OperationNumber × OperationNumber)) (k : ℕ) (d : OperationNumber × OperationNumber) (order new : OrderValue) → pairs ≡ numbered_pairs t → HasRows t.processes order →
    (HasRow order (get_or pairs k d).1 → (get_or pairs k d).0.process < 64 → IsClosedStep new (get_or pairs k d).0 (get_or pairs k d).1) →
    (pair : OperationNumber × OperationNumber) → slice_get pairs k ≡ Some pair → IsClosedStep new pair.0 pair.1
pair_closed t ok pairs k d order new is rows closed pair at =
    let same : get_or pairs k d ≡ pair = get_or_from_slice_get pairs k pair d at in
    let listed : Contains pairs pair = (k, slice_get_within pairs k pair at, get_or_from_slice_get pairs k pair pair at) in
    let of = from_map (numbered_pair t.processes) t.before pair (subst (λ (l : List (OperationNumber × OperationNumber)). Contains l pair) is listed) in
    let known = All-contains (λ (p : OpName × OpName). IsSome (operation_at t p.0) × IsSome (operation_at t p.1)) t.before of.0 ok.known of.1 in
    let second = placed t of.0.1 known.1 in
    let row : HasRow order (numbered t.processes of.0.1) = rows (order_of t.processes of.0.1.process) of.0.1.place second.process second.at second.most in
    let named : numbered_pair t.processes of.0 ≡ get_or pairs k d = of.2 ∙ sym same in
    let there : HasRow order (get_or pairs k d).1 = subst (λ (p : OperationNumber × OperationNumber). HasRow order p.1) named row in
    let few : (get_or pairs k d).0.process < 64 = subst (λ (p : OperationNumber × OperationNumber). p.0.process < 64) named (few_process t ok of.0.0 known.0) in
    subst (λ (p : OperationNumber × OperationNumber). IsClosedStep new p.0 p.1) same (closed there few)

-- rows whose places are forced say no more than the forced order
pub sound : (t : TraceValue) → IsTrace t → (order : OrderValue) → AreForced t order → IsWithinForced t (ordered_by t order)
sound t ok order given m n h k ordered =
    let q = order_of t.processes m.process in
    let l = last_before order (numbered t.processes n) q in
    let high : m.place ≤ l = leb-true m.place l ordered in
    let low = (known_named t m h).least in
    elim (given (numbered t.processes n) q) [
      | inl none ↦ absurd (omega (arith, low, high, none))
      | inr f ↦ (let first = placed t m h in
          let second = placed t n k in
          let same_first = one_process t q f.first first.process f.first_at first.at in
          let same_second = one_process t (order_of t.processes n.process) f.second second.process f.second_at second.at in
          let last : OpName = record { process = m.process; place = l } in
          let called : f.first.name ≡ m.process = ap (λ (p : Process). p.name) same_first ∙ first.called in
          let named : f.second.name ≡ n.process = ap (λ (p : Process). p.name) same_second ∙ second.called in
          let before : IsForced t last (record { process = f.second.name; place = n.place }) = subst (λ a. IsForced t (record { process = a; place = l }) (record { process = f.second.name; place = n.place })) called f.forced in
          let forced : IsForced t last n = subst (λ a. IsForced t last (record { process = a; place = n.place })) named before in
          forced_lower t m last n h (path_known t ok last forced.0 n forced.1) (λ i. m.process) high forced)
    ]
