-- Which operations had ended before another, by numbers, and that the last of them is found by the least ends.
use Rattle.std.proofs.Common.{◌≡◌, ◌⊎◌, ◌<◌, ◌≤◌, ◌+◌, ◌-◌, ℕ, zero, suc, List, [], ◌∷◌, ◌++◌, length, length-append, get_or, true, false, refl, ap, sym, ◌∙◌, arith, inl, inr, subst}
use Rattle.std.specs.Prelude.{Option, Some, None, nat_le, nat_lt}
use Rattle.std.specs.List.{Contains, slice_get}
use Rattle.std.specs.List.Sorted.{IsPartitionedBy, IsPartitionPoint}
use Rattle.std.specs.Option.{option_and_then}
use Rattle.std.specs.Str.{bytes_eq}
use Rattle.std.proofs.Math.Seq.{get_or-append_seam}
use Rattle.std.proofs.lemmas.Bool.{cases_order, leb-true, leb-false, le-leb, lt-ltb, le-ltb}
use Rattle.std.proofs.lemmas.List.{get_or_append_left, get_or_default}
use Rattle.std.proofs.lemmas.List.Folds.{find_at}
use Rattle.std.proofs.lemmas.List.Sums.{get_or-le-sum_by}
use Rattle.std.proofs.lemmas.Option.{option_and_then_some, same_Some, slice_get_within, slice_get_past, slice_get-get_or, get_or_from_slice_get}
use Rattle.trace_semantics.specs.declared.operation.Op.{Op}
use Rattle.trace_semantics.specs.declared.operation.OpName.{OpName}
use Rattle.trace_semantics.specs.declared.operation.Span.{Span}
use Rattle.trace_semantics.specs.declared.trace.Process.{Process}
use Rattle.trace_semantics.specs.KnownOrder.{span_at, ends_before, ended_before}
use Rattle.trace_semantics.specs.Operation.{span_of}
use Rattle.trace_semantics.specs.PairOrder.{order_of}
use Rattle.trace_semantics.specs.Trace.{TraceValue, IsTrace, at_place}
use Rattle.restriction.proofs.LeftLemmas.{process_of}
use Rattle.forced_order.specs.declared.numbered.OperationNumber.{OperationNumber}
use Rattle.forced_order.specs.Closed.{IsClosedAfter, IsClosedStep, IsTimeClosed}
use Rattle.forced_order.specs.Forced.{IsForcedByNumber}
use Rattle.forced_order.specs.Rows.{OrderValue, numbered}
use Rattle.forced_order.specs.Times.{span_in, span_by_number, end_of, IsLower, AreLeastEnds, AreEnds, IsLastEnded}
use Rattle.forced_order.proofs.RowLemmas.{within}

-- the span of a name is that of its number
nested : (place : ℕ) (o : Option Process) → option_and_then span_of (option_and_then (λ (p : Process). at_place p.operations place) o) ≡ option_and_then (λ (p : Process). span_in p.operations place) o
nested place None = refl
nested place (Some p) = refl

pub span_numbered : (t : TraceValue) (n : OpName) → span_at t n ≡ span_by_number t.processes (numbered t.processes n)
span_numbered t n =
    ap (λ o. option_and_then span_of (option_and_then (λ (p : Process). at_place p.operations n.place) o)) (find_at (λ (p : Process). bytes_eq p.name n.process) t.processes)
    ∙ nested n.place (slice_get t.processes (order_of t.processes n.process))

span_named : (t : TraceValue) → IsTrace t → (j k : ℕ) (p : Process) → slice_get t.processes j ≡ Some p → span_at t (record { process = p.name; place = k }) ≡ span_by_number t.processes (record { process = j; place = k })
span_named t ok j k p at =
    let listed : Contains t.processes p = (j, slice_get_within t.processes j p at, get_or_from_slice_get t.processes j p p at) in
    ap (λ o. option_and_then span_of (option_and_then (λ (q : Process). at_place q.operations k) o)) (process_of t ok p listed)
    ∙ sym (ap (option_and_then (λ (q : Process). span_in q.operations k)) at)

-- an operation by numbers that has times
pub record HasSpan (processes : List Process) (n : OperationNumber) (span : Span) : Type 0 where
  pub process : Process
  pub at : slice_get processes n.process ≡ Some process
  pub here : span_in process.operations n.place ≡ Some span
  pub most : n.place ≤ length process.operations

pub has_span : (processes : List Process) (n : OperationNumber) (span : Span) → span_by_number processes n ≡ Some span → HasSpan processes n span
has_span processes n span e =
    option_and_then_some (λ (p : Process). span_in p.operations n.place) (slice_get processes n.process) span e (λ p at here.
    option_and_then_some span_of (at_place p.operations n.place) span here (λ op placed same.
    record { process = p; at = at; here = here; most = (within p.operations n.place op placed).1 }))

both_spans : (a b : Option Span) → ends_before a b ≡ true → ((s : Span) × (a ≡ Some s)) × ((r : Span) × (b ≡ Some r))
both_spans None b h = absurd (cc)
both_spans (Some s) None h = absurd (cc)
both_spans (Some s) (Some r) h = ((s, refl), (r, refl))

-- what had ended before another is forced to stand before it
pub timed_forced : (t : TraceValue) → IsTrace t → (m n : OperationNumber) → ends_before (span_by_number t.processes m) (span_by_number t.processes n) ≡ true → IsForcedByNumber t m n
timed_forced t ok m n h =
    let spans = both_spans (span_by_number t.processes m) (span_by_number t.processes n) h in
    let first = has_span t.processes m spans.0.0 spans.0.1 in
    let second = has_span t.processes n spans.1.0 spans.1.1 in
    let a = span_named t ok m.process m.place first.process first.at in
    let b = span_named t ok n.process n.place second.process second.at in
    let ended : ended_before t (record { process = first.process.name; place = m.place }) (record { process = second.process.name; place = n.place }) ≡ true = (λ i. ends_before (a i) (b i)) ∙ h in
    record { first = first.process; second = second.process; first_at = first.at; second_at = second.at; forced = ([], inr (inr ended)) }

-- the last that had ended, by the least ends
ended_by_end : (o : Option Span) (span : Span) → span.start ≤ 18446744073709551615 → ends_before o (Some span) ≡ nat_lt (end_of o) span.start
ended_by_end None span high = sym (le-ltb 18446744073709551615 span.start high)
ended_by_end (Some earlier) span high = refl

nothing_there : (ops : List Op) (k : ℕ) → length ops < k → span_in ops k ≡ None
nothing_there ops zero l = absurd (omega (arith, l))
nothing_there [] (suc k) l = refl
nothing_there (op ∷ ops) (suc zero) l = absurd (omega (arith, l))
nothing_there (op ∷ ops) (suc (suc k)) l = nothing_there ops (suc k) (omega (arith, l))

module _ (ops : List Op) (ends : List ℕ) (least : AreLeastEnds ops ends) where
  falls : (i m : ℕ) → i + m < length ends → get_or ends (i + m) 0 ≤ get_or ends i 0
  falls i zero l = let same : get_or ends (i + zero) 0 ≡ get_or ends i 0 = ap (λ k. get_or ends k 0) (omega arith) in omega (arith, same)
  falls i (suc m) l =
      let before = falls i m (omega (arith, l)) in
      let here : get_or ends (suc (i + m)) 0 ≤ get_or ends (i + m) 0 = (least.each (suc (i + m)) (omega (arith, l))).second in
      let same : get_or ends (i + suc m) 0 ≡ get_or ends (suc (i + m)) 0 = ap (λ k. get_or ends k 0) (omega arith) in
      omega (arith, before, here, same)

  pub from_start : (start : ℕ) → IsPartitionedBy (λ (end : ℕ). nat_le start end) ends
  from_start start i j d low inside h =
      let high = leb-true start (get_or ends j d) h in
      let shift : i + (j - i) ≡ j = omega (arith, low) in
      let down = falls i (j - i) (omega (arith, inside, low)) in
      let there : get_or ends (i + (j - i)) 0 ≡ get_or ends j d = ap (λ k. get_or ends k 0) shift ∙ get_or_default ends j 0 d inside in
      let here : get_or ends i d ≡ get_or ends i 0 = get_or_default ends i d 0 (omega (arith, low, inside)) in
      le-leb start (get_or ends i d) (omega (arith, high, down, there, here))

  module _ (span : Span) (high : span.start ≤ 18446744073709551615) (count : ℕ) (bound : count ≤ length ends)
      (point : IsPartitionPoint (λ (end : ℕ). nat_le span.start end ≡ true) (λ (end : ℕ). nat_le span.start end ≡ false) ends count) where
    late : (i : ℕ) → i < count → span.start ≤ get_or ends i 0
    late i l = leb-true span.start (get_or ends i 0) (point.0 i 0 (omega arith) l)

    -- none of the last ones had ended
    not_later : (k : ℕ) → length ends - count < k → k ≤ length ops → ends_before (span_in ops k) (Some span) ≡ false
    not_later k low most =
        let long = least.long in
        let i : ℕ = length ops - k in
        let here : i < count = omega (arith, low, most, long, bound) in
        let place : length ops - i ≡ k = omega (arith, most) in
        let end : get_or ends i 0 ≤ end_of (span_in ops (length ops - i)) = (least.each i (omega (arith, here, bound))).first in
        let same : end_of (span_in ops (length ops - i)) ≡ end_of (span_in ops k) = ap (λ p. end_of (span_in ops p)) place in
        ended_by_end (span_in ops k) span high ∙ le-ltb (end_of (span_in ops k)) span.start (omega (arith, late i here, end, same))

    none_later : (k : ℕ) → length ends - count < k → ends_before (span_in ops k) (Some span) ≡ false
    none_later k low =
        elim (cases_order k (length ops)) [
          | inl e ↦ not_later k low (omega (arith, e))
          | inr (inl less) ↦ not_later k low (omega (arith, less))
          | inr (inr more) ↦ ap (λ o. ends_before o (Some span)) (nothing_there ops k more)
        ]

    -- the one before them had
    early : (i : ℕ) → i ≡ count → i < length ends → get_or ends i 0 < span.start
    early i e l = leb-false span.start (get_or ends i 0) (point.1 i 0 (omega (arith, e)) l)

    is_own_end : (i : ℕ) → i ≡ count → i < length ends → get_or ends i 0 ≡ end_of (span_in ops (length ops - i))
    is_own_end zero e l =
        elim (least.each zero l).one [
          | inl own ↦ own
          | inr top ↦ absurd (let less = early zero e l in omega (arith, less, top, high))
        ]
    is_own_end (suc i) e l =
        elim (least.each (suc i) l).one [
          | inl own ↦ own
          | inr before ↦ absurd (let less = early (suc i) e l in let later = late i (omega (arith, e)) in omega (arith, less, before, later))
        ]

    had_ended : 1 ≤ length ends - count → ends_before (span_in ops (length ends - count)) (Some span) ≡ true
    had_ended some =
        let long = least.long in
        let place : length ops - count ≡ length ends - count = omega (arith, long) in
        let own = is_own_end count refl (omega (arith, some)) in
        let less = early count refl (omega (arith, some)) in
        let same : end_of (span_in ops (length ops - count)) ≡ end_of (span_in ops (length ends - count)) = ap (λ p. end_of (span_in ops p)) place in
        ended_by_end (span_in ops (length ends - count)) span high ∙ lt-ltb (end_of (span_in ops (length ends - count))) span.start (omega (arith, own, less, same))

    pub last_by_ends : IsLastEnded ops span (length ends - count)
    last_by_ends = record { ended = had_ended; last = none_later }

-- one operation more, from the last on
pub record EndsSoFar (ops : List Op) (ends : List ℕ) (i least : ℕ) : Type 0 where
  pub long : length ends ≡ i
  pub least_is : least ≡ get_or (18446744073709551615 ∷ ends) i 0
  pub each : (j : ℕ) → j < i → IsLower (end_of (span_in ops (length ops - j))) (get_or (18446744073709551615 ∷ ends) j 0) (get_or ends j 0)

pub ends_none : (ops : List Op) (ends : List ℕ) → ends ≡ [] → EndsSoFar ops ends 0 18446744073709551615
ends_none ops ends e = record { long = ap length e; least_is = refl; each = λ j l. absurd (omega (arith, l)) }

pub ends_more : (ops : List Op) (ends new : List ℕ) (i least lower : ℕ) → EndsSoFar ops ends i least → IsLower (end_of (span_in ops (length ops - i))) least lower → new ≡ ends ++ lower ∷ [] → EndsSoFar ops new (i + 1) lower
ends_more ops ends new i least lower so_far is e =
    subst (λ l. EndsSoFar ops l (i + 1) lower) (sym e) (record {
      long = omega (arith, grown, so_far.long);
      least_is = sym (ap (λ k. get_or (18446744073709551615 ∷ (ends ++ lower ∷ [])) k 0) one ∙ at_end);
      each = λ j l. each_of j l;
    })
  where
    grown : length (ends ++ lower ∷ []) ≡ length ends + 1
    grown = length-append ends (lower ∷ [])

    one : i + 1 ≡ suc (length ends)
    one = let long = so_far.long in omega (arith, long)

    at_end : get_or (ends ++ lower ∷ []) (length ends) 0 ≡ lower
    at_end = get_or-append_seam ends lower [] 0

    earlier : (j : ℕ) → j ≤ i → get_or (18446744073709551615 ∷ (ends ++ lower ∷ [])) j 0 ≡ get_or (18446744073709551615 ∷ ends) j 0
    earlier j l = get_or_append_left (18446744073709551615 ∷ ends) (lower ∷ []) 0 j (let long = so_far.long in omega (arith, l, long))

    each_of : (j : ℕ) → j < i + 1 → IsLower (end_of (span_in ops (length ops - j))) (get_or (18446744073709551615 ∷ (ends ++ lower ∷ [])) j 0) (get_or (ends ++ lower ∷ []) j 0)
    each_of j l =
        elim (cases_order j i) [
          | inl same ↦ (
              let at : get_or (ends ++ lower ∷ []) j 0 ≡ lower = ap (λ k. get_or (ends ++ lower ∷ []) k 0) (let long = so_far.long in omega (arith, same, long)) ∙ at_end in
              let before : get_or (18446744073709551615 ∷ (ends ++ lower ∷ [])) j 0 ≡ least = earlier j (omega (arith, same)) ∙ ap (λ k. get_or (18446744073709551615 ∷ ends) k 0) same ∙ sym so_far.least_is in
              subst (λ (x : ℕ). IsLower (end_of (span_in ops (length ops - j))) (get_or (18446744073709551615 ∷ (ends ++ lower ∷ [])) j 0) x) (sym at)
              (subst (λ (x : ℕ). IsLower (end_of (span_in ops (length ops - j))) x lower) (sym before) (subst (λ (k : ℕ). IsLower (end_of (span_in ops (length ops - k))) least lower) (sym same) is)))
          | inr (inl less) ↦ (
              let at : get_or (ends ++ lower ∷ []) j 0 ≡ get_or ends j 0 = get_or_append_left ends (lower ∷ []) 0 j (let long = so_far.long in omega (arith, less, long)) in
              subst (λ (x : ℕ). IsLower (end_of (span_in ops (length ops - j))) (get_or (18446744073709551615 ∷ (ends ++ lower ∷ [])) j 0) x) (sym at)
              (subst (λ (x : ℕ). IsLower (end_of (span_in ops (length ops - j))) x (get_or ends j 0)) (sym (earlier j (omega (arith, less)))) (so_far.each j less)))
          | inr (inr more) ↦ absurd (omega (arith, l, more))
        ]

pub all_ends : (ops : List Op) (ends : List ℕ) (i least : ℕ) → length ops ≡ i → EndsSoFar ops ends i least → AreLeastEnds ops ends
all_ends ops ends i least all so_far = record {
  long = so_far.long ∙ sym all;
  each = λ j l. so_far.each j (let long = so_far.long in omega (arith, l, long));
}

-- one process more
pub record EndsOfFirst (ps : List Process) (ends : List (List ℕ)) (k : ℕ) : Type 0 where
  pub long : length ends ≡ k
  pub each : (j : ℕ) (p : Process) (own : List ℕ) → slice_get ps j ≡ Some p → slice_get ends j ≡ Some own → AreLeastEnds p.operations own

pub ends_of_none : (ps : List Process) (ends : List (List ℕ)) → ends ≡ [] → EndsOfFirst ps ends 0
ends_of_none ps ends e =
    let none : length ends ≡ 0 = ap length e in
    record { long = none; each = λ j p own at there. absurd (let bound = slice_get_within ends j own there in omega (arith, bound, none)) }

pub ends_pushed : (ps : List Process) (ends new : List (List ℕ)) (k : ℕ) (p : Process) (own : List ℕ) → EndsOfFirst ps ends k → k < length ps → p ≡ get_or ps k p → AreLeastEnds p.operations own → new ≡ ends ++ own ∷ [] → EndsOfFirst ps new (k + 1)
ends_pushed ps ends new k p own so_far inside here least e =
    subst (λ (l : List (List ℕ)). EndsOfFirst ps l (k + 1)) (sym e) (record { long = grown; each = each_of })
  where
    grown : length (ends ++ own ∷ []) ≡ k + 1
    grown = let long = so_far.long in let more = length-append ends (own ∷ []) in omega (arith, long, more)

    last_of : (j : ℕ) (q : Process) (x : List ℕ) → j ≡ k → slice_get ps j ≡ Some q → slice_get (ends ++ own ∷ []) j ≡ Some x → AreLeastEnds q.operations x
    last_of j q x same at there =
        let process : p ≡ q = here ∙ ap (λ i. get_or ps i p) (sym same) ∙ get_or_from_slice_get ps j q p at in
        let place : j ≡ length ends = (let long = so_far.long in omega (arith, same, long)) in
        let value : own ≡ x = sym (get_or-append_seam ends own [] own) ∙ ap (λ i. get_or (ends ++ own ∷ []) i own) (sym place) ∙ get_or_from_slice_get (ends ++ own ∷ []) j x own there in
        subst (λ (r : Process). AreLeastEnds r.operations x) process (subst (λ (l : List ℕ). AreLeastEnds p.operations l) value least)

    earlier_of : (j : ℕ) (q : Process) (x : List ℕ) → j < k → slice_get ps j ≡ Some q → slice_get (ends ++ own ∷ []) j ≡ Some x → AreLeastEnds q.operations x
    earlier_of j q x less at there =
        let inside_ends : j < length ends = (let long = so_far.long in omega (arith, less, long)) in
        let value : get_or ends j own ≡ x = sym (get_or_append_left ends (own ∷ []) own j inside_ends) ∙ get_or_from_slice_get (ends ++ own ∷ []) j x own there in
        so_far.each j q x at (slice_get-get_or ends j own inside_ends ∙ ap Some value)

    each_of : (j : ℕ) (q : Process) (x : List ℕ) → slice_get ps j ≡ Some q → slice_get (ends ++ own ∷ []) j ≡ Some x → AreLeastEnds q.operations x
    each_of j q x at there =
        elim (cases_order j k) [
          | inl same ↦ last_of j q x same at there
          | inr (inl less) ↦ earlier_of j q x less at there
          | inr (inr more) ↦ absurd (let bound = slice_get_within (ends ++ own ∷ []) j x there in omega (arith, bound, grown, more))
        ]

pub all_processes : (ps : List Process) (ends : List (List ℕ)) (k : ℕ) → length ps ≡ k → EndsOfFirst ps ends k → AreEnds ps ends
all_processes ps ends k all so_far = record { long = so_far.long ∙ sym all; each = so_far.each }

-- the least ends of the process under a number
pub ends_here : (ps : List Process) (ends : List (List ℕ)) (q : ℕ) (own : List ℕ) → AreEnds ps ends → q < length ends → own ≡ get_or ends q own → (p : Process) × (slice_get ps q ≡ Some p) × AreLeastEnds p.operations own
ends_here ps ends q own are inside here =
    let d : Process = record { name = []; operations = [] } in
    let long = are.long in
    let p = get_or ps q d in
    let at : slice_get ps q ≡ Some p = slice_get-get_or ps q d (omega (arith, inside, long)) in
    let there : slice_get ends q ≡ Some own = slice_get-get_or ends q own inside ∙ ap Some (sym here) in
    (p, at, are.each q p own at there)

-- the steps to n from what had ended in one process
module _ (ps : List Process) (q : ℕ) (p : Process) (at : slice_get ps q ≡ Some p) (n : OperationNumber) (span : Span) (timed : span_by_number ps n ≡ Some span) (place : ℕ) (last : IsLastEnded p.operations span place) where
  by_place : (k : ℕ) → ends_before (span_by_number ps (record { process = q; place = k })) (span_by_number ps n) ≡ ends_before (span_in p.operations k) (Some span)
  by_place k i = ends_before (option_and_then (λ (r : Process). span_in r.operations k) (at i)) (timed i)

  -- none had
  pub none_to_close : (order : OrderValue) → nat_le 1 place ≡ false → IsClosedAfter ps order q n
  none_to_close order none k h =
      let zero_place = leb-false 1 place none in
      absurd (later_or_none k h (omega (arith, zero_place)))
    where
      later_or_none : (k : ℕ) → ends_before (span_by_number ps (record { process = q; place = k })) (span_by_number ps n) ≡ true → place < 1 → ⊥
      later_or_none zero h low = let clash : false ≡ true = sym (by_place zero) ∙ h in absurd (cc)
      later_or_none (suc k) h low = let clash : false ≡ true = sym (by_place (suc k) ∙ last.last (suc k) (omega (arith, low))) ∙ h in absurd (cc)

  pub last_ended : nat_le 1 place ≡ true → ends_before (span_by_number ps (record { process = q; place = place })) (span_by_number ps n) ≡ true
  last_ended some = by_place place ∙ last.ended (leb-true 1 place some)

  pub closed_after : (order : OrderValue) → nat_le 1 place ≡ true → IsClosedStep order (record { process = q; place = place }) n → IsClosedAfter ps order q n
  closed_after order some closed k h =
      let earlier = both_spans (span_by_number ps (record { process = q; place = place })) (span_by_number ps n) (last_ended some) in
      let own = has_span ps (record { process = q; place = place }) earlier.0.0 earlier.0.1 in
      let same : own.process ≡ p = same_Some own.process p (sym own.at ∙ at) in
      record {
        process = p;
        at = at;
        place = place;
        later = no_later k h (cases_order k place);
        most = subst (λ (r : Process). place ≤ length r.operations) same own.most;
        closed = closed;
      }
    where
      no_later : (k : ℕ) → ends_before (span_by_number ps (record { process = q; place = k })) (span_by_number ps n) ≡ true → (k ≡ place) ⊎ ((k < place) ⊎ (place < k)) → k ≤ place
      no_later k h (inl e) = omega (arith, e)
      no_later k h (inr (inl less)) = omega (arith, less)
      no_later k h (inr (inr more)) = absurd (let clash : false ≡ true = sym (by_place k ∙ last.last k more) ∙ h in cc)

-- without times there is nothing to close
pub untimed_closed : (ps : List Process) (order : OrderValue) (n : OperationNumber) → span_by_number ps n ≡ None → IsTimeClosed ps order n
untimed_closed ps order n none q k h = absurd (never (span_by_number ps (record { process = q; place = k })) (ap (ends_before (span_by_number ps (record { process = q; place = k }))) (sym none) ∙ h))
  where
    never : (o : Option Span) → ends_before o None ≡ true → ⊥
    never None e = absurd (cc)
    never (Some s) e = absurd (cc)

-- a place that was found fits into 32 bits
pub place_fits : (t : TraceValue) → IsTrace t → (q : ℕ) (p : Process) → slice_get t.processes q ≡ Some p → (place : ℕ) (span : Span) → IsLastEnded p.operations span place → place ≤ 1048576
place_fits t ok q p at zero span last = omega arith
place_fits t ok q p at (suc k) span last =
    let there = both_spans (span_in p.operations (suc k)) (Some span) (last.ended (omega arith)) in
    let inside = option_and_then_some span_of (at_place p.operations (suc k)) there.0.0 there.0.1 (λ op placed same. within p.operations (suc k) op placed) in
    let few = get_or-le-sum_by (λ (r : Process). length r.operations) t.processes q p (slice_get_within t.processes q p at) in
    let same : length (get_or t.processes q p).operations ≡ length p.operations = ap (λ (r : Process). length r.operations) (get_or_from_slice_get t.processes q p p at) in
    omega (arith, inside.1, few, same, ok.few_operations)

-- past the last process nothing has times
pub no_process_closed : (ps : List Process) (order : OrderValue) (n : OperationNumber) (count q : ℕ) → length ps ≤ count → (q < count → IsClosedAfter ps order q n) → IsClosedAfter ps order q n
no_process_closed ps order n count q all closed =
    elim (cases_order q count) [
      | inl e ↦ past (omega (arith, e, all))
      | inr (inl less) ↦ closed less
      | inr (inr more) ↦ past (omega (arith, more, all))
    ]
  where
    past : length ps ≤ q → IsClosedAfter ps order q n
    past l k h =
        let none : span_by_number ps (record { process = q; place = k }) ≡ None = ap (option_and_then (λ (p : Process). span_in p.operations k)) (slice_get_past ps q l) in
        let clash : false ≡ true = sym (ap (λ o. ends_before o (span_by_number ps n)) none) ∙ h in
        absurd (cc)
