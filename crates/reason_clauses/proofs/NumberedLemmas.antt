-- What pairs by numbers say.
use Rattle.std.proofs.Common.{◌≡◌, ◌<◌, ◌≤◌, ℕ, List, [], ◌∷◌, ◌++◌, map, slice_index_or, refl, ap, sym, arith, inl, inr, subst}
use Rattle.std.specs.Prelude.{⊤}
use Rattle.std.specs.List.{Contains}
use Rattle.std.proofs.lemmas.Bool.{cases_order}
use Rattle.trace_semantics.specs.declared.trace.Process.{Process}
use Rattle.trace_semantics.specs.Trace.{TraceValue}
use Rattle.trace_semantics.proofs.ElementLemmas.{from_map, to_map, in_middle}
use Rattle.std.proofs.lemmas.List.Elements.{Contains-append_left}
use Rattle.writer_table.specs.declared.operation_place.OperationPlace.{OperationPlace}
use Rattle.forced_order.specs.Order.{IsInProgramOrder}
use Rattle.order_clauses.specs.declared.order_pair.OrderPair.{OrderPair}
use Rattle.reason_clauses.specs.declared.stretches.Stretches.{Stretches}
use Rattle.order_reasons.specs.Reasons.{IsUpTo}
use Rattle.order_reasons.specs.Sources.{Hidden, Behind, Apart}
use Rattle.order_clauses.specs.Numbered.{named, IsKnown, named_orders}
use Rattle.reason_clauses.specs.Numbered.{Grows, MakesSay, MakesHidden, MakesApart, BarsPlaces, IsGivenWitness, IsInHidden, IsFrom, IsInMain, AreTaken, at_number}

abbrev names_in : TraceValue → ℕ → List ℕ
names_in t k = slice_index_or (map (λ (p : Process). p.name) t.processes) k []

pub in_order : (t : TraceValue) (m n : OperationPlace) → IsKnown t m → IsKnown t n → m.process ≡ n.process → m.place < n.place → IsInProgramOrder t (named t m) (named t n)
in_order t m n first second same lower = record { first = first.1; second = second.1; process = ap (names_in t) same; lower = lower }

pub up_to : (t : TraceValue) (m n : OperationPlace) → IsKnown t m → IsKnown t n → m.process ≡ n.process → m.place ≤ n.place → IsUpTo t (named t m) (named t n)
up_to t m n first second same low =
    elim (cases_order m.place n.place) [
      | inl e ↦ inl (λ i. record { process = names_in t (same i); place = e i })
      | inr (inl less) ↦ inr (in_order t m n first second same less)
      | inr (inr above) ↦ absurd (omega (arith, low, above))
    ]

-- nothing is appended, as program order has it otherwise
pub left_out : (orders : List OrderPair) (m n : OperationPlace) → m.process ≡ n.process → n.place ≤ m.place → MakesSay orders m n
left_out orders m n same low t clause all first second =
    elim (up_to t n m second first (sym same) low) [
      | inl e ↦ inr (inl (sym e))
      | inr h ↦ inr (inr h)
    ]

pub grows_same : (orders : List OrderPair) → Grows orders orders
grows_same orders t clause all = all

pub grows_one : (orders : List OrderPair) (o : OrderPair) → Grows orders (orders ++ o ∷ [])
grows_one orders o t clause all p c =
    let at = from_map (λ (x : OrderPair). (named t x.first, named t x.second)) orders p c in
    all p (subst (λ q. Contains (named_orders t (orders ++ o ∷ [])) q) at.2 (to_map (λ (x : OrderPair). (named t x.first, named t x.second)) (orders ++ o ∷ []) at.0 (Contains-append_left orders (o ∷ []) at.0 at.1)))

pub pushed : (orders : List OrderPair) (m n : OperationPlace) → MakesSay (orders ++ (record { first = m; second = n }) ∷ []) m n
pushed orders m n t clause all first second =
    inl (all (named t m, named t n) (to_map (λ (x : OrderPair). (named t x.first, named t x.second)) (orders ++ (record { first = m; second = n }) ∷ []) (record { first = m; second = n }) (in_middle orders (record { first = m; second = n }) [])))

pub grows_over : (a b c : List OrderPair) → Grows a b → Grows b c → Grows a c
grows_over a b c f g t clause all = f t clause (g t clause all)

pub hides : (mid new : List OrderPair) (r x c : OperationPlace) → MakesSay mid x c → Grows mid new → MakesSay new r x → MakesHidden new r x c
hides mid new r x c first more second t clause location d w all r_known x_known c_known witness apart other up =
    Hidden (named t x) (named t c) witness apart other up (first t clause (more t clause all) x_known c_known) (second t clause all r_known x_known)

pub parts : (mid new : List OrderPair) (r c u : OperationPlace) → MakesSay mid c u → Grows mid new → MakesSay new u r → MakesApart new r c u
parts mid new r c u first more second t clause location d w all r_known c_known u_known up =
    Apart (named t c) (named t u) up u_known.1 (first t clause (more t clause all) c_known u_known) (second t clause all u_known r_known)

pub bars_up_to : (new : List OrderPair) (r x : OperationPlace) (process place : ℕ) → MakesHidden new r x (at_number process place) → (x ≡ at_number process place → ⊥) →
    BarsPlaces new r process (λ t location d. IsGivenWitness t location d r x) (λ n p. (p ≤ place) × (place ≤ n))
bars_up_to new r x process place makes other t clause location d n apart all r_known known given p low high taken =
    let bound : IsKnown t (at_number process place) = known place (omega (arith, low, taken.0)) taken.1 in
    makes t clause location d (named t (at_number process p)) all r_known given.0 bound given.1 given.2
    (λ same. other (apart x (at_number process place) given.0 bound same)) (up_to t (at_number process p) (at_number process place) (known p low high) bound refl taken.0)

pub bars_from : (new : List OrderPair) (r : OperationPlace) (process place : ℕ) → MakesSay new (at_number process place) r → BarsPlaces new r process (λ t location d. ⊤) (IsFrom place)
bars_from new r process place says t clause location d n apart all r_known known given p low high taken =
    let bound : IsKnown t (at_number process place) = known place taken.0 (omega (arith, high, taken.1)) in
    Behind (named t (at_number process place)) (up_to t (at_number process place) (at_number process p) bound (known p low high) refl taken.1) (says t clause all bound r_known)

pub bars_apart : (new : List OrderPair) (r u : OperationPlace) (process : ℕ) (s : Stretches) → MakesApart new r (at_number process s.first) u → BarsPlaces new r process (λ t location d. IsKnown t u) (IsInMain s)
bars_apart new r u process s makes t clause location d n apart all r_known known given p low high taken =
    let bound : IsKnown t (at_number process s.first) = known s.first taken.0 (omega (arith, high, taken.1)) in
    makes t clause location d (named t (at_number process p)) all r_known bound given (up_to t (at_number process s.first) (at_number process p) bound (known p low high) refl taken.1)

pub none_hidden : (new : List OrderPair) (r : OperationPlace) (process : ℕ) (s : Stretches) (given : TraceValue → List ℕ → ℕ → Type 0) → s.hidden ≡ 0 → BarsPlaces new r process given (IsInHidden s)
none_hidden new r process s given e t clause location d n apart all r_known known g p low high taken = absurd (omega (arith, e, low, taken.0))

pub none_from : (new : List OrderPair) (r : OperationPlace) (process place : ℕ) (given : TraceValue → List ℕ → ℕ → Type 0) → place ≡ 0 → BarsPlaces new r process given (IsFrom place)
none_from new r process place given e t clause location d n apart all r_known known g p low high taken = absurd (omega (arith, e, taken.0))

pub none_main : (new : List OrderPair) (r : OperationPlace) (process : ℕ) (s : Stretches) (given : TraceValue → List ℕ → ℕ → Type 0) → s.first ≡ 0 → BarsPlaces new r process given (IsInMain s)
none_main new r process s given e t clause location d n apart all r_known known g p low high taken = absurd (omega (arith, e, taken.0))

pub bars_more : (old new : List OrderPair) (r : OperationPlace) (process : ℕ) (given : TraceValue → List ℕ → ℕ → Type 0) (taken : ℕ → ℕ → Type 0) → Grows old new → BarsPlaces old r process given taken → BarsPlaces new r process given taken
bars_more old new r process given taken grows bars t clause location d n apart all r_known known g p low high h = bars t clause location d n apart (grows t clause all) r_known known g p low high h

pub bars_other : (new : List OrderPair) (r : OperationPlace) (process : ℕ) (given more : TraceValue → List ℕ → ℕ → Type 0) (taken less : ℕ → ℕ → Type 0) → ((t : TraceValue) (location : List ℕ) (d : ℕ) → more t location d → given t location d) → ((n p : ℕ) → less n p → taken n p) →
    BarsPlaces new r process given taken → BarsPlaces new r process more less
bars_other new r process given more taken less f h bars t clause location d n apart all r_known known g p low high k = bars t clause location d n apart all r_known known (f t location d g) p low high (h n p k)

pub bars_all : (new : List OrderPair) (r : OperationPlace) (process : ℕ) (s : Stretches) (front main : TraceValue → List ℕ → ℕ → Type 0) → BarsPlaces new r process front (IsInHidden s) → BarsPlaces new r process (λ t location d. ⊤) (IsFrom s.later) → BarsPlaces new r process main (IsInMain s) →
    BarsPlaces new r process (λ t location d. front t location d × main t location d) (AreTaken s)
bars_all new r process s front main first second third t clause location d n apart all r_known known g p low high (most, inl h) = first t clause location d n apart all r_known known g.0 p low high (h, most.0)
bars_all new r process s front main first second third t clause location d n apart all r_known known g p low high (most, inr (inl h)) = second t clause location d n apart all r_known known tt p low high h
bars_all new r process s front main first second third t clause location d n apart all r_known known g p low high (most, inr (inr h)) = third t clause location d n apart all r_known known g.1 p low high (h.0, h.1, h.2, most.3)
