-- What an operation does.
use Rattle.std.specs.Prelude.{ℕ, List, Option, Some, None, Bool, ◌==◌, ◌&&◌}
use Rattle.std.specs.Str.{bytes_eq}
use Rattle.trace_semantics.specs.declared.operation.Op.{Op}
use Rattle.trace_semantics.specs.declared.operation.Op.TheVariants.{Read, Write, Update}
use Rattle.trace_semantics.specs.declared.operation.OpName.{OpName}
use Rattle.trace_semantics.specs.declared.operation.Origin.{Origin}
use Rattle.trace_semantics.specs.declared.operation.Span.{Span}
use Rattle.trace_semantics.specs.declared.operation.Origin.TheVariants.{Any}

-- the location on which it works
abbrev pub location_of : Op → List ℕ
location_of (Read location value origin span) = location
location_of (Write location value span) = location
location_of (Update location read left origin span) = location

-- the value that it reads, if it is a reading operation
abbrev pub value_read : Op → Option ℕ
value_read (Read location value origin span) = Some value
value_read (Write location value span) = None
value_read (Update location read left origin span) = Some read

-- the value that it leaves, if it writes
abbrev pub written_value : Op → Option ℕ
written_value (Read location value origin span) = None
written_value (Write location value span) = Some value
written_value (Update location read left origin span) = Some left

-- what is said of where its value comes from
abbrev pub origin_of : Op → Origin
origin_of (Read location value origin span) = origin
origin_of (Write location value span) = Any
origin_of (Update location read left origin span) = origin

-- when it was under way, if the trace says so
abbrev pub span_of : Op → Option Span
span_of (Read location value origin span) = span
span_of (Write location value span) = span
span_of (Update location read left origin span) = span

-- whether two names are the same
abbrev pub same_op : OpName → OpName → Bool
same_op m n = bytes_eq m.process n.process && (m.place == n.place)
