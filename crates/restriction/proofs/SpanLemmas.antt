-- What remains of operations was under way when they were, so times order it as they order the operations.
use Rattle.std.proofs.Common.{◌≡◌, map, true, refl, ap, ◌∙◌}
use Rattle.std.specs.Prelude.{Option, Some, None, IsSome}
use Rattle.std.specs.Option.{option_and_then, option_map}
use Rattle.trace_semantics.specs.declared.operation.Op.{Op}
use Rattle.trace_semantics.specs.declared.operation.Op.TheVariants.{Read, Write, Update}
use Rattle.trace_semantics.specs.declared.operation.OpName.{OpName}
use Rattle.trace_semantics.specs.declared.operation.Span.{Span}
use Rattle.trace_semantics.specs.KnownOrder.{span_at, ends_before, ended_before}
use Rattle.trace_semantics.specs.Operation.{span_of}
use Rattle.trace_semantics.specs.Trace.{TraceValue, IsTrace, operation_at}
use Rattle.restriction.specs.Left.{is_left, new_name, new_op, left_process}
use Rattle.restriction.specs.Restriction.{KeepsSpans}
use Rattle.restriction.proofs.LeftLemmas.{new_operation}

pub same_span : (stays : OpName → Option Op) (op : Op) → span_of (new_op stays op) ≡ span_of op
same_span stays (Read location value origin span) = refl
same_span stays (Write location value span) = refl
same_span stays (Update location read left origin span) = refl

span_mapped : (stays : OpName → Option Op) (o : Option Op) → option_and_then span_of (option_map (new_op stays) o) ≡ option_and_then span_of o
span_mapped stays None = refl
span_mapped stays (Some op) = same_span stays op

-- of two spans of which one ends before the other starts, both are there
pub both_there : (earlier later : Option Span) → ends_before earlier later ≡ true → IsSome earlier × IsSome later
both_there None later h = absurd (cc)
both_there (Some first) None h = absurd (cc)
both_there (Some first) (Some second) h = (refl, refl)

module _ (t q : TraceValue) (ok : IsTrace t) (stays : OpName → Option Op) (made : q.processes ≡ map (left_process stays) t.processes) (spans : KeepsSpans t stays) where
  pub span_left : (n : OpName) → IsSome (operation_at t n) → is_left stays n ≡ true → span_at q (new_name stays n) ≡ span_at t n
  span_left n known left = ap (option_and_then span_of) (new_operation t q ok stays made n known left) ∙ span_mapped stays (stays n) ∙ spans n left

  pub ended_left : (m n : OpName) → IsSome (operation_at t m) → IsSome (operation_at t n) → is_left stays m ≡ true → is_left stays n ≡ true →
      ended_before q (new_name stays m) (new_name stays n) ≡ ended_before t m n
  ended_left m n first second first_left second_left i = ends_before (span_left m first first_left i) (span_left n second second_left i)
