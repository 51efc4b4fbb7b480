-- What a trace says of the order of its operations.
use Rattle.std.specs.Prelude.{◌≡◌, ◌⊎◌, true, false, nat_lt, Bool, Option, Some, None, is_some}
use Rattle.std.specs.List.{All, Contains, list_any}
use Rattle.std.specs.Option.{option_and_then}
use Rattle.trace_semantics.specs.declared.operation.Op.{Op}
use Rattle.trace_semantics.specs.declared.operation.OpName.{OpName}
use Rattle.trace_semantics.specs.declared.operation.Span.{Span}
use Rattle.trace_semantics.specs.declared.trace.Process.{Process}
use Rattle.trace_semantics.specs.Operation.{span_of}
use Rattle.trace_semantics.specs.Trace.{TraceValue, operation_at}

-- when the named operation was under way, if the trace says so
abbrev pub span_at : TraceValue → OpName → Option Span
span_at t n = option_and_then span_of (operation_at t n)

-- there are both spans, and the first ends before the second starts
abbrev pub ends_before : Option Span → Option Span → Bool
ends_before None later = false
ends_before (Some earlier) None = false
ends_before (Some earlier) (Some later) = nat_lt earlier.end later.start

-- m had ended before n began (real-time order: Herlihy and Wing, 1990)
abbrev pub ended_before : TraceValue → OpName → OpName → Bool
ended_before t m n = ends_before (span_at t m) (span_at t n)

-- the trace says that m stands before n: by a before pair, or by times
abbrev pub IsKnownBefore : TraceValue → OpName → OpName → Type 0
IsKnownBefore t m n = Contains t.before (m, n) ⊎ (ended_before t m n ≡ true)

-- an operation says when it was under way
abbrev pub has_span : Op → Bool
has_span op = is_some (span_of op)

-- some operation does
abbrev pub says_times : TraceValue → Bool
says_times t = list_any (λ (p : Process). list_any has_span p.operations) t.processes

-- no operation has a span
abbrev pub HasNoTimes : TraceValue → Type 0
HasNoTimes t = All (λ (p : Process). All (λ (op : Op). span_of op ≡ None) p.operations) t.processes
