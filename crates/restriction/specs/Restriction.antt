-- What a trace keeps that is made of what remains of another.
use Rattle.std.specs.Prelude.{◌≡◌, true, List, ℕ, map, Option, None, IsSome, if◌then◌else◌}
use Rattle.std.specs.List.{Contains}
use Rattle.std.specs.Option.{option_and_then}
use Rattle.std.specs.Str.{bytes_eq}
use Rattle.trace_semantics.specs.declared.operation.Op.{Op}
use Rattle.trace_semantics.specs.declared.operation.OpName.{OpName}
use Rattle.trace_semantics.specs.Interleaving.{StandsBefore}
use Rattle.trace_semantics.specs.KnownOrder.{span_at}
use Rattle.trace_semantics.specs.Operation.{location_of, written_value, span_of}
use Rattle.trace_semantics.specs.Trace.{TraceValue, operation_at}
use Rattle.trace_semantics.specs.ValueAfter.{value_left_at}
use Rattle.restriction.specs.Left.{is_left, new_name, left_process}

-- what an operation leaves at a location
abbrev pub left_by : List ℕ → Op → Option ℕ
left_by location op = if bytes_eq (location_of op) location then written_value op else None

-- of operations of the trace alone something stays, and it leaves at each location what the operation leaves there
pub record StaysAlike (t : TraceValue) (stays : OpName → Option Op) : Type 0 where
  pub known : (n : OpName) → is_left stays n ≡ true → IsSome (operation_at t n)
  pub leaves : (location : List ℕ) (n : OpName) → is_left stays n ≡ true → option_and_then (left_by location) (stays n) ≡ value_left_at t location n

-- what remains of an operation was under way when the operation was
abbrev pub KeepsSpans : TraceValue → (OpName → Option Op) → Type 0
KeepsSpans t stays = (n : OpName) → is_left stays n ≡ true → option_and_then span_of (stays n) ≡ span_at t n

-- each before pair of q is of two operations that remain, of which the first stands before the second
abbrev pub ArePairsLeft : TraceValue → (OpName → Option Op) → List OpName → Type 0
ArePairsLeft q stays names = (x y : OpName) → Contains q.before (x, y) → (m : OpName) × (n : OpName) × (is_left stays m ≡ true) × (is_left stays n ≡ true) × StandsBefore names m n × (new_name stays m ≡ x) × (new_name stays n ≡ y)

-- the processes of q are those of t, with what remains of each
abbrev pub AreProcessesLeft : TraceValue → (OpName → Option Op) → TraceValue → Type 0
AreProcessesLeft t stays q = q.processes ≡ map (left_process stays) t.processes
