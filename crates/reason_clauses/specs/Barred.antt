-- Which sources of a reader the new orders of a clause bar.
use Rattle.std.specs.Prelude.{◌≡◌, ℕ, List, Some}
use Rattle.std.specs.List.{Contains}
use Rattle.trace_semantics.specs.declared.operation.OpName.{OpName}
use Rattle.trace_semantics.specs.declared.operation.Origin.{Origin}
use Rattle.trace_semantics.specs.Trace.{TraceValue, value_of}
use Rattle.trace_semantics.specs.ValueAfter.{value_left_at}
use Rattle.writer_table.specs.declared.operation_place.OperationPlace.{OperationPlace}
use Rattle.writer_table.specs.declared.runs.Run.{Run}
use Rattle.order_clauses.specs.declared.order_pair.OrderPair.{OrderPair}
use Rattle.order_clauses.specs.Numbered.{named, IsKnown}
use Rattle.order_reasons.specs.Sources.{AllowsWriter, AllowsInitial, IsBarred, IsInitialBarred}
use Rattle.reason_clauses.specs.declared.pieces.SourcePieces.{SourcePieces}
use Rattle.reason_clauses.specs.Numbered.{at_number, AreIn}
use Rattle.reason_clauses.specs.Pieces.{AreGiven}

-- each clause that has the new orders bars the operation of these numbers
abbrev pub IsPlaceBarred : TraceValue → List OrderPair → OperationPlace → SourcePieces → OperationPlace → Type 0
IsPlaceBarred t new r pieces n = (clause : List (OpName × OpName)) (location : List ℕ) (d : ℕ) → AreIn t new clause → IsKnown t r → AreGiven t location d r pieces → IsKnown t n → IsBarred t clause location d (named t r) (named t n)

-- the operations of the run are of the trace
abbrev pub IsKnownRun : TraceValue → Run → Type 0
IsKnownRun t run = (k : ℕ) → Contains run.places k → IsKnown t (at_number run.process k)

-- the same of each operation of the run from which r may read; in r's own process that is one at most
abbrev pub IsRunBarred : TraceValue → List OrderPair → OperationPlace → Origin → ℕ → SourcePieces → Run → Type 0
IsRunBarred t new r origin own pieces run = IsKnownRun t run → (k : ℕ) → Contains run.places k → AllowsWriter origin (named t (at_number run.process k)) → (run.process ≡ r.process → k ≡ own) → IsPlaceBarred t new r pieces (at_number run.process k)

abbrev pub AreRunsBarred : TraceValue → List OrderPair → OperationPlace → Origin → ℕ → SourcePieces → List Run → Type 0
AreRunsBarred t new r origin own pieces runs = (run : Run) → Contains runs run → IsRunBarred t new r origin own pieces run

-- each clause that has the new orders bars the initial value, if it is d and r may read it
abbrev pub IsStartBarred : TraceValue → List OrderPair → OperationPlace → Origin → SourcePieces → List ℕ → ℕ → Type 0
IsStartBarred t new r origin pieces location d = (clause : List (OpName × OpName)) → AreIn t new clause → IsKnown t r → AreGiven t location d r pieces → value_of t.initial location ≡ Some d → AllowsInitial origin → IsInitialBarred t clause location d (named t r)

-- each clause that has the new orders bars each source of r that reads d at the location
pub record AreSourcesBarred (t : TraceValue) (new : List OrderPair) (r : OperationPlace) (origin : Origin) (pieces : SourcePieces) (location : List ℕ) (d : ℕ) : Type 0 where
  pub writers : (clause : List (OpName × OpName)) → AreIn t new clause → IsKnown t r → AreGiven t location d r pieces → (w : OpName) → value_left_at t location w ≡ Some d → AllowsWriter origin w → IsBarred t clause location d (named t r) w
  pub initial : IsStartBarred t new r origin pieces location d
