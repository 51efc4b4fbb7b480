-- What a location holds after some operations, and who wrote it last.
use Rattle.std.specs.Prelude.{ℕ, List, Option, None, is_some, if◌then◌else◌}
use Rattle.std.specs.List.{filter, filter_map, last_or}
use Rattle.std.specs.Option.{option_and_then}
use Rattle.std.specs.Str.{bytes_eq}
use Rattle.trace_semantics.specs.declared.operation.OpName.{OpName}
use Rattle.trace_semantics.specs.Operation.{location_of, written_value}
use Rattle.trace_semantics.specs.Trace.{TraceValue, operation_at, value_of}

-- the value that the named operation leaves at the location, if it writes there
abbrev pub value_left_at : TraceValue → List ℕ → OpName → Option ℕ
value_left_at t location n = option_and_then (λ op. if bytes_eq (location_of op) location then written_value op else None) (operation_at t n)

-- the last value that these operations leave at the location, or else its initial value, if it has one
abbrev pub value_after : TraceValue → List ℕ → List OpName → Option ℕ
value_after t location names = last_or (value_of t.initial location) (filter_map (value_left_at t location) names)

-- the last of these operations that writes the location
abbrev pub last_writer : TraceValue → List ℕ → List OpName → Option OpName
last_writer t location names = last_or None (filter (λ n. is_some (value_left_at t location n)) names)
