-- Who wants a value at a location, each from a source of its own, and what sources of it there are.
use Rattle.std.specs.Prelude.{◌≤◌, ◌<◌, ◌&&◌, ℕ, List, [], ◌∷◌, ◌++◌, map, length, Bool, is_some, if◌then◌else◌}
use Rattle.std.specs.List.{filter, list_any}
use Rattle.trace_semantics.specs.declared.operation.OpName.{OpName}
use Rattle.trace_semantics.specs.Judgement.{is_held}
use Rattle.trace_semantics.specs.Trace.{TraceValue, operation_names, value_of}
use Rattle.trace_semantics.specs.ValueAfter.{value_left_at}
use Rattle.order_reasons.specs.Counting.{NeedsSource, Update, End}
use Rattle.order_reasons.specs.Reasons.{value_read_at}
use Rattle.order_reasons.specs.Sources.{ValueSource, LeftBy, InitialAt}

-- the operation writes the location
abbrev pub is_writer : TraceValue → List ℕ → OpName → Bool
is_writer t location n = is_some (value_left_at t location n)

-- the operation reads the value at the location and writes there
abbrev pub is_wanting : TraceValue → List ℕ → ℕ → OpName → Bool
is_wanting t location value n = is_held (value_read_at t location n) value && is_writer t location n

-- the location ends with the value, and some operation writes it
abbrev pub is_end_wanting : TraceValue → List ℕ → ℕ → Bool
is_end_wanting t location value = is_held (value_of t.final_values location) value && list_any (is_writer t location) (operation_names t)

-- each update of the location that reads the value, and the location's end, if it ends with the value and is written
abbrev pub needs_of : TraceValue → List ℕ → ℕ → List NeedsSource
needs_of t location value = map Update (filter (is_wanting t location value) (operation_names t)) ++ (if is_end_wanting t location value then End location ∷ [] else [])

-- each operation that leaves the value at the location, and the initial value, if it is this one
abbrev pub sources_of : TraceValue → List ℕ → ℕ → List ValueSource
sources_of t location value = map LeftBy (filter (λ n. is_held (value_left_at t location n) value) (operation_names t)) ++ (if is_held (value_of t.initial location) value then InitialAt location ∷ [] else [])

-- there are fewer sources than want one
abbrev pub AreTooFew : TraceValue → List ℕ → ℕ → Type 0
AreTooFew t location value = length (sources_of t location value) < length (needs_of t location value)

-- there are enough
abbrev pub AreEnough : TraceValue → List ℕ → ℕ → Type 0
AreEnough t location value = length (needs_of t location value) ≤ length (sources_of t location value)
