-- Split variables: the order of two operations in conflict.
use Rattle.std.specs.Prelude.{ℕ, List, map, Option, Some, None, is_some, Bool, false, not, ◌&&◌, ◌||◌}
use Rattle.std.specs.List.{filter}
use Rattle.std.specs.Str.{bytes_eq}
use Rattle.trace_semantics.specs.declared.operation.Op.{Op}
use Rattle.trace_semantics.specs.Operation.{location_of, written_value}
use Rattle.trace_semantics.specs.Trace.{TraceValue, operation_count}
use Rattle.var_layout.specs.Numbers.{op_at, in_one_process}
use Rattle.var_layout.specs.OrderVariables.{pairs, order_var}

-- both work on one location, and at least one of them writes
abbrev pub are_in_conflict : Option Op → Option Op → Bool
are_in_conflict None second = false
are_in_conflict (Some first) None = false
are_in_conflict (Some first) (Some second) = bytes_eq (location_of first) (location_of second) && (is_some (written_value first) || is_some (written_value second))

-- two operations in conflict, of different processes
abbrev pub is_split : TraceValue → ℕ × ℕ → Bool
is_split t pair = not (in_one_process t pair.0 pair.1) && are_in_conflict (op_at t pair.0) (op_at t pair.1)

-- the order variables of those of the pairs that are such
abbrev pub splits_among : TraceValue → List (ℕ × ℕ) → List ℕ
splits_among t pairs = map (λ (pair : ℕ × ℕ). order_var (operation_count t) pair.0 pair.1) (filter (is_split t) pairs)

-- the order variables of all such pairs
abbrev pub splits : TraceValue → List ℕ
splits t = splits_among t (pairs (operation_count t))
