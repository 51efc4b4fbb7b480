-- The judge's memory after some operations.
use Rattle.std.specs.Prelude.{◌≡◌, ℕ, List, Option, Some, cond, MatchOption}
use Rattle.std.specs.List.{slice_get}
use Rattle.std.specs.Option.{option_and_then}
use Rattle.std.specs.Str.{bytes_eq}
use Rattle.schedule_judge.specs.declared.memory.Memory.{Memory}
use Rattle.trace_semantics.specs.declared.operation.Op.{Op}
use Rattle.trace_semantics.specs.declared.operation.OpName.{OpName}
use Rattle.trace_semantics.specs.Operation.{location_of, written_value}
use Rattle.trace_semantics.specs.NameNumbers.{number_of}
use Rattle.trace_semantics.specs.Trace.{TraceValue}
use Rattle.trace_semantics.specs.ValueAfter.{value_after, last_writer}

-- the last writer of a location, by its place in the list of names
abbrev pub writer_of : List OpName → Memory → List ℕ → Option OpName
writer_of names memory location = option_and_then (slice_get names) (number_of memory.writers location)

-- memory after the operations `done`, of which the places are counted in `names`
pub record IsMemoryAfter (t : TraceValue) (names done : List OpName) (memory : Memory) : Type 0 where
  pub values : (location : List ℕ) → number_of memory.values location ≡ value_after t location done
  pub writers : (location : List ℕ) → writer_of names memory location ≡ last_writer t location done

-- the value stands at the location, written by the name at this place, and all else is as it was
pub record Writes (old : Memory) (location : List ℕ) (value place : ℕ) (new : Memory) : Type 0 where
  pub values : (q : List ℕ) → number_of new.values q ≡ cond (bytes_eq location q) (Some value) (number_of old.values q)
  pub writers : (q : List ℕ) → number_of new.writers q ≡ cond (bytes_eq location q) (Some place) (number_of old.writers q)

-- the operation is run
abbrev pub Runs : Memory → Op → ℕ → Memory → Type 0
Runs old op place new = MatchOption (written_value op) (new ≡ old) (λ value. Writes old (location_of op) value place new)
