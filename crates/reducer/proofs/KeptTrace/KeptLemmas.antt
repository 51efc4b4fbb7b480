-- A kept operation, by its name in the whole trace and by its name in the kept one.
use Rattle.std.proofs.Common.{◌≡◌, Bool, true, false, cond, not, refl, ap, ◌∙◌}
use Rattle.std.specs.Prelude.{Option, None, IsSome, is_some}
use Rattle.std.specs.Option.{option_and_then, option_map}
use Rattle.trace_semantics.specs.declared.operation.Op.{Op}
use Rattle.trace_semantics.specs.declared.operation.OpName.{OpName}
use Rattle.trace_semantics.specs.Operation.{span_of}
use Rattle.trace_semantics.specs.Trace.{TraceValue, IsTrace, operation_at}
use Rattle.restriction.specs.Left.{new_op}
use Rattle.restriction.specs.Restriction.{KeepsSpans}
use Rattle.restriction.proofs.LeftLemmas.{IsOld, old_known, has_old, old_left, old_operation}
use Rattle.reducer.specs.Reduction.{is_dropped, kept_op, is_kept, kept_trace}

-- a kept operation is known, and the whole of it stays
known_by : (b : Bool) (o : Option Op) → is_some (cond b None o) ≡ true → IsSome o
known_by true o h = absurd (cc)
known_by false o h = h

whole_by : (b : Bool) (o : Option Op) → is_some (cond b None o) ≡ true → cond b None o ≡ o
whole_by true o h = absurd (cc)
whole_by false o h = refl

pub kept_known : (t : TraceValue) (n : OpName) → is_kept t n ≡ true → IsSome (operation_at t n)
kept_known t n h = known_by (is_dropped t n) (operation_at t n) h

pub kept_whole : (t : TraceValue) (n : OpName) → is_kept t n ≡ true → kept_op t n ≡ operation_at t n
kept_whole t n h = whole_by (is_dropped t n) (operation_at t n) h

pub kept_spans : (t : TraceValue) → KeepsSpans t (kept_op t)
kept_spans t n h = ap (option_and_then span_of) (kept_whole t n h)

-- a known operation is kept if and only if it is not dropped
kept_by : (b : Bool) (o : Option Op) → IsSome o → is_some (cond b None o) ≡ not b
kept_by true o h = refl
kept_by false o h = h

pub known_kept : (t : TraceValue) (n : OpName) → IsSome (operation_at t n) → is_kept t n ≡ not (is_dropped t n)
known_kept t n h = kept_by (is_dropped t n) (operation_at t n) h

-- a dropped operation is not kept, whatever is known of it
pub dropped_goes : (t : TraceValue) (n : OpName) → is_dropped t n ≡ true → is_kept t n ≡ false
dropped_goes t n h = ap (λ b. is_some (cond b None (operation_at t n))) h

-- the operation of a name of the kept trace
pub first_operation : (t : TraceValue) → IsTrace t → (x n : OpName) → IsOld t (kept_op t) x n → operation_at (kept_trace t) x ≡ option_map (new_op (kept_op t)) (operation_at t n)
first_operation t ok x n first =
    old_operation t (kept_trace t) ok (kept_op t) refl x n first ∙ ap (option_map (new_op (kept_op t))) (kept_whole t n (old_known t ok (kept_op t) x n first).left)

-- an operation of the kept trace has a first name
pub kept_first : (t : TraceValue) → IsTrace t → (x : OpName) → IsSome (operation_at (kept_trace t) x) → (n : OpName) × IsOld t (kept_op t) x n
kept_first t ok x h = has_old t (kept_trace t) ok (kept_op t) refl x h

pub first_kept : (t : TraceValue) → IsTrace t → (x n : OpName) → IsOld t (kept_op t) x n → IsSome (operation_at (kept_trace t) x)
first_kept t ok x n first = old_left t (kept_trace t) ok (kept_op t) refl x n first
