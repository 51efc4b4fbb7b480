-- The reduction of a trace: the trace without repeated local reads.
use Rattle.std.specs.Prelude.{ℕ, List, map, Option, Some, None, Bool, false, not, ◌==◌, ◌&&◌, ◌||◌, ◌-◌, if◌then◌else◌}
use Rattle.std.specs.List.{filter, list_any}
use Rattle.std.specs.Str.{bytes_eq}
use Rattle.trace_semantics.specs.declared.operation.Op.{Op}
use Rattle.trace_semantics.specs.declared.operation.Op.TheVariants.{Read, Write, Update}
use Rattle.trace_semantics.specs.declared.operation.OpName.{OpName}
use Rattle.trace_semantics.specs.declared.operation.Origin.{Origin}
use Rattle.trace_semantics.specs.declared.operation.Origin.TheVariants.{Any, Initial, Operation}
use Rattle.trace_semantics.specs.declared.trace.Process.{Process}
use Rattle.trace_semantics.specs.Operation.{location_of, origin_of, same_op}
use Rattle.trace_semantics.specs.Trace.{TraceValue, operation_at}
use Rattle.restriction.specs.Left.{is_left, new_pair, names_of, left_process}

-- what its location holds directly after an operation: what it leaves, or else what it reads
abbrev pub value_behind : Op → ℕ
value_behind (Read location value origin span) = value
value_behind (Write location value span) = value
value_behind (Update location read left origin span) = left

-- a plain read of what its location holds directly after the earlier operation on it, if nothing is said of its source and of its times
abbrev pub is_repeat : Op → Op → Bool
is_repeat earlier (Read location value Any None) = bytes_eq (location_of earlier) location && (value_behind earlier == value)
is_repeat earlier op = false

-- both operations exist, and the second repeats the first
abbrev pub repeats : Option Op → Option Op → Bool
repeats None op = false
repeats (Some earlier) None = false
repeats (Some earlier) (Some op) = is_repeat earlier op

-- the name of the operation directly before it in its process
abbrev pub previous : OpName → OpName
previous n = record { process = n.process; place = n.place - 1 }

-- the origin is this operation
abbrev pub is_from : OpName → Origin → Bool
is_from n Any = false
is_from n Initial = false
is_from n (Operation m) = same_op m n

-- a before pair names the operation
abbrev pub is_in_pair : TraceValue → OpName → Bool
is_in_pair t n = list_any (λ (pair : OpName × OpName). same_op pair.0 n || same_op pair.1 n) t.before

-- the origin of some operation names the operation
abbrev pub is_an_origin : TraceValue → OpName → Bool
is_an_origin t n = list_any (λ (p : Process). list_any (λ (op : Op). is_from n (origin_of op)) p.operations) t.processes

-- the operation is dropped: it repeats the one directly before it, and neither a before pair nor an origin names it
abbrev pub is_dropped : TraceValue → OpName → Bool
is_dropped t n = repeats (operation_at t (previous n)) (operation_at t n) && not (is_in_pair t n || is_an_origin t n)

-- what stays of an operation: of a dropped one nothing, of each other one the whole
abbrev pub kept_op : TraceValue → OpName → Option Op
kept_op t n = if is_dropped t n then None else operation_at t n

-- the trace has the operation, and it is not dropped
abbrev pub is_kept : TraceValue → OpName → Bool
is_kept t n = is_left (kept_op t) n

-- the names of the operations of a process that are kept
abbrev pub kept_names : TraceValue → Process → List OpName
kept_names t p = filter (is_kept t) (names_of p)

-- the reduction of a trace: the kept operations, by their new names
abbrev pub kept_trace : TraceValue → TraceValue
kept_trace t = record {
  processes = map (left_process (kept_op t)) t.processes;
  initial = t.initial;
  final_values = t.final_values;
  before = map (new_pair (kept_op t)) t.before;
}
