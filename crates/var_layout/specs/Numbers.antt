-- The operations of a trace by number: 0, 1 and so on, by process and then place.
use Rattle.std.specs.Prelude.{ℕ, List, [], Option, Some, None, is_some, Bool, false, not, ◌==◌, slice_get}
use Rattle.std.specs.List.{filter, position_or_len, range_with_len}
use Rattle.std.specs.Option.{option_and_then, option_map_or}
use Rattle.std.specs.Str.{bytes_eq}
use Rattle.trace_semantics.specs.declared.operation.Op.{Op}
use Rattle.trace_semantics.specs.declared.operation.OpName.{OpName}
use Rattle.trace_semantics.specs.Operation.{location_of, value_read, same_op}
use Rattle.trace_semantics.specs.Trace.{TraceValue, operation_at, operation_names, operation_count}
use Rattle.trace_semantics.specs.ValueAfter.{value_left_at}

-- the numbers of all operations
abbrev pub numbers : TraceValue → List ℕ
numbers t = range_with_len 0 (operation_count t)

-- the name of the operation of this number
abbrev pub name_at : TraceValue → ℕ → Option OpName
name_at t i = slice_get (operation_names t) i

-- the number of the operation of this name
abbrev pub number_of : TraceValue → OpName → ℕ
number_of t n = position_or_len (same_op n) (operation_names t)

-- the operation of this number
abbrev pub op_at : TraceValue → ℕ → Option Op
op_at t i = option_and_then (operation_at t) (name_at t i)

-- the value that it reads, if it is a reading operation
abbrev pub read_at : TraceValue → ℕ → Option ℕ
read_at t i = option_and_then value_read (op_at t i)

-- the value that it leaves at the location, if it writes there
abbrev pub left_at : TraceValue → List ℕ → ℕ → Option ℕ
left_at t location i = option_and_then (value_left_at t location) (name_at t i)

-- the reading operations
abbrev pub readers : TraceValue → List ℕ
readers t = filter (λ i. is_some (read_at t i)) (numbers t)

-- the writers of a location
abbrev pub writers : TraceValue → List ℕ → List ℕ
writers t location = filter (λ i. is_some (left_at t location i)) (numbers t)

-- those other than this one
abbrev pub others : ℕ → List ℕ → List ℕ
others i xs = filter (λ x. not (x == i)) xs

-- the writers, other than the operation itself, of the location on which it works
abbrev pub other_writers : TraceValue → ℕ → List ℕ
other_writers t i = option_map_or (λ (op : Op). others i (writers t (location_of op))) (op_at t i) []

-- both names are of one process
abbrev pub share_process : Option OpName → Option OpName → Bool
share_process None n = false
share_process (Some m) None = false
share_process (Some m) (Some n) = bytes_eq m.process n.process

-- both operations are of one process
abbrev pub in_one_process : TraceValue → ℕ → ℕ → Bool
in_one_process t i j = share_process (name_at t i) (name_at t j)
