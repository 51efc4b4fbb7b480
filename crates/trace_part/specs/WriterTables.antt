-- What a table of the writers of each location holds.
use Rattle.std.specs.Prelude.{◌≡◌, ◌≢◌, ◌<◌, ℕ, List, [], ◌∷◌, ◌++◌, Option, Some, None, Bool, length, slice_index_or}
use Rattle.std.specs.List.{slice_get}
use Rattle.std.specs.Option.{option_and_then}
use Rattle.trace_semantics.specs.declared.operation.OpName.{OpName}
use Rattle.trace_semantics.specs.NameNumbers.{number_of}
use Rattle.trace_semantics.specs.Trace.{TraceValue}
use Rattle.trace_part.specs.declared.writer_table.WriterTable.{WriterTable}
use Rattle.trace_part.specs.declared.writers.ChosenWriter.{ChosenWriter}
use Rattle.trace_part.specs.Rows.{rows_of}

abbrev pub list_or_none : Option (List ChosenWriter) → List ChosenWriter
list_or_none None = []
list_or_none (Some rows) = rows

-- what is listed under the number of the location
abbrev pub writers_at : WriterTable → List ℕ → List ChosenWriter
writers_at table location = list_or_none (option_and_then (slice_get table.lists.items) (number_of table.numbers location))

-- there is a list under each number, and no two locations have one number
pub record AreNumbersOwn (table : WriterTable) : Type 0 where
  pub listed : (location : List ℕ) (k : ℕ) → number_of table.numbers location ≡ Some k → k < length table.lists.items
  pub apart : (p q : List ℕ) (k : ℕ) → number_of table.numbers p ≡ Some k → number_of table.numbers q ≡ Some k → p ≡ q

-- the list under the number has one writer more, and the others are as they were
pub record HasOneMoreAt (old new : List (List ChosenWriter)) (number : ℕ) (row : ChosenWriter) : Type 0 where
  pub here : slice_index_or new number [] ≡ slice_index_or old number [] ++ row ∷ []
  pub others : (k : ℕ) → k ≢ number → slice_index_or new k [] ≡ slice_index_or old k []
  pub long : length new ≡ length old

-- the writers of each location are listed
abbrev pub IsTable : TraceValue → (OpName → Bool) → WriterTable → Type 0
IsTable t chosen table = (location : List ℕ) → writers_at table location ≡ rows_of t chosen location
