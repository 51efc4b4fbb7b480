-- What the makers of clauses ask of a trace by numbers.
use Rattle.std.specs.Prelude.{◌≡◌, ◌≢◌, ◌<◌, ◌⊎◌, ℕ, List, length, Option, Some, None, IsSome, if◌then◌else◌}
use Rattle.std.specs.Str.{bytes_eq}
use Rattle.trace_semantics.specs.declared.operation.Op.{Op}
use Rattle.trace_semantics.specs.Operation.{location_of, origin_of, value_read}
use Rattle.trace_semantics.specs.Trace.{TraceValue, operation_at}
use Rattle.writer_table.specs.declared.operation_place.OperationPlace.{OperationPlace}
use Rattle.restriction.specs.Restriction.{left_by}
use Rattle.order_clauses.specs.Numbered.{named}
use Rattle.reason_clauses.specs.declared.reader.ReadValue.{ReadValue}

-- the operation of these numbers is this one
abbrev pub IsNumberOf : TraceValue → OperationPlace → Op → Type 0
IsNumberOf t n op = (n.process < length t.processes) × (operation_at t (named t n) ≡ Some op)

-- the operation of these numbers reads this value, by what the trace says of it
pub record IsReadBy (t : TraceValue) (n : OperationPlace) (read : ReadValue) : Type 0 where
  pub op : Op
  pub number : IsNumberOf t n op
  pub reads : value_read op ≡ Some read.value
  pub location_is : read.location.now ≡ location_of op
  pub origin_is : read.origin.now ≡ origin_of op

abbrev pub read_by : List ℕ → Op → Option ℕ
read_by location op = if bytes_eq (location_of op) location then value_read op else None

-- the operation writes the location, or reads another value there
abbrev pub DoesHide : List ℕ → ℕ → Op → Type 0
DoesHide location d op = IsSome (left_by location op) ⊎ ((e : ℕ) × (read_by location op ≡ Some e) × (e ≢ d))
