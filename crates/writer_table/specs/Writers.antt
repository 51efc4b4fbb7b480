-- What a table of writers holds.
use Rattle.std.specs.Prelude.{◌≡◌, ◌<◌, ◌+◌, true, false, ℕ, List, length, map, Some, slice_index_or}
use Rattle.std.specs.List.{slice_get}
use Rattle.std.specs.Option.{option_and_then}
use Rattle.trace_semantics.specs.declared.trace.Process.{Process}
use Rattle.trace_semantics.specs.Trace.{TraceValue}
use Rattle.restriction.specs.Restriction.{left_by}
use Rattle.writer_table.specs.declared.runs.Run.{Run}
use Rattle.writer_table.specs.declared.writer_classes.WriterClasses.{WriterClasses}
use Rattle.writer_table.specs.declared.trace_writers.TraceWriters.{TraceWriters}
use Rattle.writer_table.specs.PlaceTable.{row}
use Rattle.writer_table.specs.Runs.{AreOrdered, AreUpTo, IsIn}
use Rattle.writer_table.specs.WriterClasses.{class_left, class_of}

-- of the first n of these processes, the table has under its class each operation that writes, and no others, in order
pub record HoldsFirst (processes : List Process) (classes : WriterClasses) (table : List (List Run)) (n : ℕ) : Type 0 where
  pub here : (q k d : ℕ) (p : Process) (location : List ℕ) → q < n → slice_index_or processes q p ≡ p → option_and_then (left_by location) (slice_get p.operations k) ≡ Some d →
      IsIn (row table (class_of classes location d)) q (k + 1)
  pub only : (class q k : ℕ) → IsIn (row table class) q k → (q < n) × ((j : ℕ) × (k ≡ j + 1) × ((p : Process) → slice_index_or processes q p ≡ p → slice_get (map (class_left classes) p.operations) j ≡ Some (Some class)))
  pub ordered : (class : ℕ) → AreUpTo (row table class) n 0

-- what the table gives for a location and a value
abbrev pub runs_at : TraceWriters → List ℕ → ℕ → List Run
runs_at writers location value = row writers.table (class_of writers.classes location value)

-- of each process the table has what leaves the value at the location, and nothing else, in one run whose places rise; a table by locations does not look at the value
pub record HoldsWriters (t : TraceValue) (writers : TraceWriters) : Type 0 where
  pub here : (q k d : ℕ) (p : Process) (location : List ℕ) → q < length t.processes → slice_index_or t.processes q p ≡ p → option_and_then (left_by location) (slice_get p.operations k) ≡ Some d →
      IsIn (runs_at writers location d) q (k + 1)
  pub only : (location : List ℕ) (value q k : ℕ) → IsIn (runs_at writers location value) q k →
      (q < length t.processes) × ((j : ℕ) × (k ≡ j + 1) × ((p : Process) → slice_index_or t.processes q p ≡ p → j < length p.operations))
  pub alike : (location : List ℕ) (d e : ℕ) → writers.classes.by_value ≡ false → runs_at writers location d ≡ runs_at writers location e
  pub leaves : (location : List ℕ) (value q k : ℕ) (p : Process) → slice_index_or t.processes q p ≡ p → IsIn (runs_at writers location value) q (k + 1) →
      (d : ℕ) × (option_and_then (left_by location) (slice_get p.operations k) ≡ Some d) × (writers.classes.by_value ≡ true → d ≡ value)
  pub ordered : (location : List ℕ) (value : ℕ) → AreOrdered (runs_at writers location value)
