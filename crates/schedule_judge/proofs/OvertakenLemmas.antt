-- Whether an operation that has not come had ended before this one started.
use Rattle.std.proofs.Common.{◌≡◌, ◌<◌, ◌≤◌, ℕ, List, length, take, get_or, Bool, true, false, not, refl, ap, sym, ◌∙◌, arith, inl, inr}
use Rattle.std.specs.Prelude.{Option, Some, None}
use Rattle.std.specs.List.{Contains, slice_get, list_all}
use Rattle.std.specs.Option.{option_and_then}
use Rattle.std.proofs.lemmas.Bool.{cases_order, ltb-true, lt-ltb, false_from_ne_true}
use Rattle.std.proofs.lemmas.List.{get_or-take, length-take}
use Rattle.std.proofs.lemmas.Option.{slice_get_within, slice_get-get_or, get_or_from_slice_get}
use Rattle.schedule_judge.specs.declared.ending.Ending.{Ending}
use Rattle.schedule_judge.specs.Endings.{name_of, AreEndings, IsFirstMissing, is_overtaken}
use Rattle.trace_semantics.specs.declared.operation.Op.{Op}
use Rattle.trace_semantics.specs.declared.operation.OpName.{OpName}
use Rattle.trace_semantics.specs.declared.operation.Span.{Span}
use Rattle.trace_semantics.specs.Judgement.{has_come, timed_before}
use Rattle.trace_semantics.specs.KnownOrder.{span_at, ends_before, ended_before}
use Rattle.trace_semantics.specs.Operation.{span_of}
use Rattle.trace_semantics.specs.Trace.{TraceValue, operation_at, operation_names}
use Rattle.trace_semantics.proofs.ElementLemmas.{pass_all, all_pass, to_filter, from_filter}
use Rattle.trace_semantics.proofs.KnownOrderLemmas.{both_timed}
use Rattle.trace_semantics.proofs.NameLemmas.{known_listed}

-- an end before a start, as the two spans that have them
record AreApart (a b : Option Span) : Type 0 where
  earlier : Span
  later : Span
  is_earlier : a ≡ Some earlier
  is_later : b ≡ Some later
  apart : earlier.end < later.start

spans_apart : (a b : Option Span) → ends_before a b ≡ true → AreApart a b
spans_apart None b h = absurd (cc)
spans_apart (Some r) None h = absurd (cc)
spans_apart (Some r) (Some s) h = record { earlier = r; later = s; is_earlier = refl; is_later = refl; apart = ltb-true r.end s.start h }

apart_spans : (a b : Option Span) (r s : Span) → a ≡ Some r → b ≡ Some s → r.end < s.start → ends_before a b ≡ true
apart_spans a b r s earlier later less = (λ i. ends_before (earlier i) (later i)) ∙ lt-ltb r.end s.start less

-- the entry that ends before a span starts
record Overtakes (entry : Option Ending) (span : Option Span) : Type 0 where
  ending : Ending
  later : Span
  is_entry : entry ≡ Some ending
  is_later : span ≡ Some later
  apart : ending.end < later.start

overtakes : (entry : Option Ending) (span : Option Span) → is_overtaken entry span ≡ true → Overtakes entry span
overtakes None span h = absurd (cc)
overtakes (Some e) None h = absurd (cc)
overtakes (Some e) (Some s) h = record { ending = e; later = s; is_entry = refl; is_later = refl; apart = ltb-true e.end s.start h }

overtaken_by : (entry : Option Ending) (span : Option Span) (e : Ending) (s : Span) → entry ≡ Some e → span ≡ Some s → e.end < s.start → is_overtaken entry span ≡ true
overtaken_by entry span e s here later less = (λ i. is_overtaken (here i) (later i)) ∙ lt-ltb e.end s.start less

module _ (t : TraceValue) (endings : List Ending) (are : AreEndings t endings) (done : List OpName) (next : ℕ) (first : IsFirstMissing done endings next) (n : OpName) where
  -- the first that has not come had ended before n started, so that not all of those have come
  not_all : is_overtaken (slice_get endings next) (span_at t n) ≡ true → list_all (has_come done) (timed_before t n) ≡ false
  not_all h =
      let over = overtakes (slice_get endings next) (span_at t n) h in
      let e = over.ending in
      let within : next < length endings = slice_get_within endings next e over.is_entry in
      let has = are.known e (next, within, get_or_from_slice_get endings next e e over.is_entry) in
      let less : has.0.end < over.later.start = omega (arith, has.2, over.apart) in
      let ended : ended_before t (name_of e) n ≡ true = apart_spans (span_at t (name_of e)) (span_at t n) has.0 over.later has.1 over.is_later less in
      let listed : Contains (timed_before t n) (name_of e) = to_filter (λ k. ended_before t k n) (operation_names t) (name_of e) ended (known_listed t (name_of e) (both_timed t (name_of e) n ended).0) in
      false_from_ne_true (list_all (has_come done) (timed_before t n)) (λ all. let clash : true ≡ false = sym (all_pass (has_come done) (timed_before t n) all (name_of e) listed) ∙ first.missing e over.is_entry in absurd (cc))

  -- an entry from the first missing one on ends no earlier than that
  late : is_overtaken (slice_get endings next) (span_at t n) ≡ false → (e : Ending) (k : ℕ) (later : Span) → span_at t n ≡ Some later → k < length endings → get_or endings k e ≡ e → next ≤ k → e.end < later.start → ⊥
  late h e k later is_later within here from less =
      let bound : (get_or endings next e).end ≤ (get_or endings k e).end = are.rising next k e from within in
      let end : (get_or endings k e).end ≡ e.end = ap (λ (x : Ending). x.end) here in
      let first_less : (get_or endings next e).end < later.start = omega (arith, bound, end, less) in
      let over : is_overtaken (slice_get endings next) (span_at t n) ≡ true = overtaken_by (slice_get endings next) (span_at t n) (get_or endings next e) later (slice_get-get_or endings next e (omega (arith, from, within))) is_later first_less in
      let clash : true ≡ false = sym over ∙ h in
      absurd (cc)

  come_entry : is_overtaken (slice_get endings next) (span_at t n) ≡ false → (e : Ending) (k : ℕ) (later : Span) → span_at t n ≡ Some later → k < length endings → get_or endings k e ≡ e → e.end < later.start → has_come done (name_of e) ≡ true
  come_entry h e k later is_later within here less =
      elim (cases_order k next) [
        | inl same ↦ absurd (late h e k later is_later within here (omega (arith, same)) less)
        | inr (inl below) ↦ all_pass (λ (x : Ending). has_come done (name_of x)) (take next endings) first.come e
            (k, omega (arith, below, within, length-take next endings), get_or-take next endings k e below ∙ here)
        | inr (inr above) ↦ absurd (late h e k later is_later within here (omega (arith, above)) less)
      ]

  -- an operation that had ended before n started comes in front of the first that has not come
  in_front : is_overtaken (slice_get endings next) (span_at t n) ≡ false → (m : OpName) → ended_before t m n ≡ true → has_come done m ≡ true
  in_front h m ended =
      let spans = spans_apart (span_at t m) (span_at t n) ended in
      let entry = are.each m spans.earlier spans.is_earlier in
      ap (has_come done) (sym entry.2) ∙ come_entry h entry.0 entry.1.0 spans.later spans.is_later entry.1.1 entry.1.2 (omega (arith, entry.3, spans.apart))

  overtaken_cases : (b : Bool) → is_overtaken (slice_get endings next) (span_at t n) ≡ b → b ≡ not (list_all (has_come done) (timed_before t n))
  overtaken_cases true h = sym (ap not (not_all h))
  overtaken_cases false h =
      sym (ap not (pass_all (has_come done) (timed_before t n) (λ m c. in_front h m (from_filter (λ k. ended_before t k n) (operation_names t) m c).1)))

-- the first operation that has not come had ended before this one started, if and only if not all of those have come
pub overtaken_is : (t : TraceValue) (endings : List Ending) → AreEndings t endings → (done : List OpName) (next : ℕ) → IsFirstMissing done endings next → (n : OpName) (op : Op) → operation_at t n ≡ Some op → is_overtaken (slice_get endings next) (span_of op) ≡ not (list_all (has_come done) (timed_before t n))
overtaken_is t endings are done next first n op known =
    ap (is_overtaken (slice_get endings next)) (sym (ap (option_and_then span_of) known)) ∙ overtaken_cases t endings are done next first n (is_overtaken (slice_get endings next) (span_at t n)) refl
