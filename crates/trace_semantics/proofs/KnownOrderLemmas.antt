-- What follows from times.
use Rattle.std.proofs.Common.{◌≡◌, ◌<◌, ◌≤◌, ℕ, zero, suc, List, [], ◌∷◌, ◌++◌, Bool, true, false, cond, refl, ap, sym, ◌∙◌, arith, inl, inr, append-nil}
use Rattle.std.specs.Prelude.{◌↔◌, Option, Some, None, IsSome, is_some}
use Rattle.std.specs.List.{All, Contains, filter, list_any}
use Rattle.std.specs.Option.{option_and_then}
use Rattle.std.specs.Str.{bytes_eq}
use Rattle.std.proofs.lemmas.Bool.{ltb-true, lt-ltb, le-ltb, or_parts}
use Rattle.std.proofs.lemmas.List.Elements.{All-nil, All-cons, All-contains}
use Rattle.std.proofs.lemmas.Option.{option_and_then_some, slice_get_within, get_or_from_slice_get}
use Rattle.trace_semantics.specs.declared.operation.Op.{Op}
use Rattle.trace_semantics.specs.declared.operation.OpName.{OpName}
use Rattle.trace_semantics.specs.declared.operation.Span.{Span}
use Rattle.trace_semantics.specs.declared.trace.Process.{Process}
use Rattle.trace_semantics.specs.Judgement.{paired_before, put_before}
use Rattle.trace_semantics.specs.KnownOrder.{span_at, ends_before, ended_before, IsKnownBefore, has_span, says_times, HasNoTimes}
use Rattle.trace_semantics.specs.Operation.{span_of}
use Rattle.trace_semantics.specs.Trace.{TraceValue, IsTrace, at_place, process_named, operation_at, operation_names, IsSpan}
use Rattle.trace_semantics.proofs.ElementLemmas.{found}

both_there : (a b : Option Span) → ends_before a b ≡ true → IsSome a × IsSome b
both_there None b h = absurd (cc)
both_there (Some s) None h = absurd (cc)
both_there (Some s) (Some r) h = (refl, refl)

has_operation : (o : Option Op) → IsSome (option_and_then span_of o) → IsSome o
has_operation None h = absurd (cc)
has_operation (Some op) h = refl

-- both are operations of the trace
pub both_timed : (t : TraceValue) (m n : OpName) → ended_before t m n ≡ true → IsSome (operation_at t m) × IsSome (operation_at t n)
both_timed t m n h =
    let spans = both_there (span_at t m) (span_at t n) h in
    (has_operation (operation_at t m) spans.0, has_operation (operation_at t n) spans.1)

-- one that ended before another, which ended before a third, ended before that
pub ends_on : (a b c : Option Span) → IsSpan b → ends_before a b ≡ true → ends_before b c ≡ true → ends_before a c ≡ true
ends_on None b c ok h g = absurd (cc)
ends_on (Some r) None c ok h g = absurd (cc)
ends_on (Some r) (Some s) None ok h g = absurd (cc)
ends_on (Some r) (Some s) (Some q) ok h g =
    let first : r.end < s.start = ltb-true r.end s.start h in
    let second : s.end < q.start = ltb-true s.end q.start g in
    let span : s.start ≤ s.end = ok in
    lt-ltb r.end q.start (omega (arith, first, second, span))

-- none ended before itself
pub not_itself : (a : Option Span) → IsSpan a → ends_before a a ≡ false
not_itself None ok = refl
not_itself (Some s) ok = le-ltb s.end s.start ok

in_place : {X : Type 0} (xs : List X) (k : ℕ) (x : X) → at_place xs k ≡ Some x → Contains xs x
in_place xs zero x e = absurd (cc)
in_place xs (suc k) x e = (k, slice_get_within xs k x e, get_or_from_slice_get xs k x x e)

of_operation : (P : Option Span → Type 0) → P None → (o : Option Op) → ((op : Op) → o ≡ Some op → P (span_of op)) → P (option_and_then span_of o)
of_operation P none None each = none
of_operation P none (Some op) each = each op refl

-- what the span of each operation is, the span of a name is
of_each : (P : Option Span → Type 0) (t : TraceValue) → P None → All (λ (p : Process). All (λ (op : Op). P (span_of op)) p.operations) t.processes → (n : OpName) → P (span_at t n)
of_each P t none all n = of_operation P none (operation_at t n) known
  where
    known : (op : Op) → operation_at t n ≡ Some op → P (span_of op)
    known op at =
        option_and_then_some (λ (p : Process). at_place p.operations n.place) (process_named t n.process) op at (λ p named placed.
        All-contains (λ (o : Op). P (span_of o)) p.operations op
        (All-contains (λ (q : Process). All (λ (o : Op). P (span_of o)) q.operations) t.processes p all (found (λ (q : Process). bytes_eq q.name n.process) t.processes p named).0)
        (in_place p.operations n.place op placed))

-- the span of a name ends no earlier than it starts
pub span_of_name : (t : TraceValue) → IsTrace t → (n : OpName) → IsSpan (span_at t n)
span_of_name t ok n = of_each IsSpan t tt ok.spans n

unsaid : (o : Option Span) → is_some o ≡ false → o ≡ None
unsaid None e = refl
unsaid (Some span) e = absurd (cc)

no_spans : (ops : List Op) → list_any has_span ops ≡ false → All (λ (op : Op). span_of op ≡ None) ops
no_spans [] e = All-nil _
no_spans (op ∷ ops) e =
    let parts = or_parts (has_span op) (list_any has_span ops) e in
    All-cons (λ (o : Op). span_of o ≡ None) op ops (unsaid (span_of op) parts.0) (no_spans ops parts.1)

none_timed : (ps : List Process) → list_any (λ (p : Process). list_any has_span p.operations) ps ≡ false → All (λ (p : Process). All (λ (op : Op). span_of op ≡ None) p.operations) ps
none_timed [] e = All-nil _
none_timed (p ∷ ps) e =
    let parts = or_parts (list_any has_span p.operations) (list_any (λ (q : Process). list_any has_span q.operations) ps) e in
    All-cons (λ (q : Process). All (λ (op : Op). span_of op ≡ None) q.operations) p ps (no_spans p.operations parts.0) (none_timed ps parts.1)

-- a trace that says no times has none
pub untimed_if_unsaid : (t : TraceValue) → says_times t ≡ false → HasNoTimes t
untimed_if_unsaid t e = none_timed t.processes e

pub no_span : (t : TraceValue) → HasNoTimes t → (n : OpName) → span_at t n ≡ None
no_span t untimed n = of_each (λ s. s ≡ None) t refl untimed n

never_before : (a b : Option Span) → a ≡ None → ends_before a b ≡ false
never_before None b e = refl
never_before (Some s) b e = absurd (cc)

-- without times nothing ended before anything
pub untimed_apart : (t : TraceValue) → HasNoTimes t → (m n : OpName) → ended_before t m n ≡ false
untimed_apart t untimed m n = never_before (span_at t m) (span_at t n) (no_span t untimed m)

pair_alone : (t : TraceValue) (m n : OpName) → ended_before t m n ≡ false → IsKnownBefore t m n → Contains t.before (m, n)
pair_alone t m n apart (inl listed) = listed
pair_alone t m n apart (inr timed) = let clash : true ≡ false = sym timed ∙ apart in absurd (cc)

-- without times only pairs say an order
pub untimed_order : (t : TraceValue) (m n : OpName) → HasNoTimes t → IsKnownBefore t m n ↔ Contains t.before (m, n)
untimed_order t m n untimed = (pair_alone t m n (untimed_apart t untimed m n), λ listed. inl listed)

none_pass : {X : Type 0} (p : X → Bool) (xs : List X) → ((x : X) → p x ≡ false) → filter p xs ≡ []
none_pass p [] none = refl
none_pass p (x ∷ xs) none = ap (λ b. cond b (x ∷ filter p xs) (filter p xs)) (none x) ∙ none_pass p xs none

pub untimed_put : (t : TraceValue) (n : OpName) → HasNoTimes t → put_before t n ≡ paired_before t n
untimed_put t n untimed =
    ap (λ ms. paired_before t n ++ ms) (none_pass (λ m. ended_before t m n) (operation_names t) (λ m. untimed_apart t untimed m n)) ∙ append-nil (paired_before t n)
