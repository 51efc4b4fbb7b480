-- What pieces leave of the sources of a reader.
use Rattle.std.specs.Prelude.{◌≡◌, ◌≤◌, ◌⊎◌, true, Bool, ℕ, List, Some}
use Rattle.std.specs.List.{Contains}
use Rattle.trace_semantics.specs.declared.operation.OpName.{OpName}
use Rattle.trace_semantics.specs.declared.operation.Origin.{Origin}
use Rattle.trace_semantics.specs.Trace.{TraceValue, value_of}
use Rattle.trace_semantics.specs.ValueAfter.{value_left_at}
use Rattle.writer_table.specs.declared.operation_place.OperationPlace.{OperationPlace}
use Rattle.writer_table.specs.declared.runs.Run.{Run}
use Rattle.writer_table.specs.declared.trace_writers.TraceWriters.{TraceWriters}
use Rattle.writer_table.specs.Writers.{runs_at}
use Rattle.order_clauses.specs.declared.order_pair.OrderPair.{OrderPair}
use Rattle.order_clauses.specs.Numbered.{named, IsKnown}
use Rattle.order_reasons.specs.Sources.{ValueSource, LeftBy, InitialAt, AllowsWriter, AllowsInitial, IsBarred, IsInitialBarred}
use Rattle.reason_clauses.specs.declared.pieces.SourcePieces.{SourcePieces}
use Rattle.reason_clauses.specs.declared.stretches.Stretches.{Stretches}
use Rattle.reason_clauses.specs.Barred.{IsKnownRun}
use Rattle.reason_clauses.specs.Numbered.{at_number, AreIn}
use Rattle.reason_clauses.specs.Pieces.{AreGiven}
use Rattle.reason_counting.specs.declared.left_sources.LeftSources.{LeftSources}
use Rattle.reason_counting.specs.declared.left_sources.LeftStretch.{LeftStretch}

-- the stretches without the main one
abbrev pub without_main : Stretches → Stretches
without_main s = record { hidden = s.hidden; later = s.later; first = 0; last = 0 }

-- what was left before is left still
abbrev pub AreMore : List LeftStretch → List LeftStretch → Type 0
AreMore old new = (x : LeftStretch) → Contains old x → Contains new x

-- each of the new stretches is an old one, or one of this kind
abbrev pub KeepsOnly : List LeftStretch → List LeftStretch → (LeftStretch → Type 0) → Type 0
KeepsOnly old new Is = (x : LeftStretch) → Contains new x → Contains old x ⊎ Is x

-- x is the main stretch of the process, of writers of the value
pub record IsMainStretch (value process : ℕ) (s : Stretches) (x : LeftStretch) : Type 0 where
  pub some : 1 ≤ s.first
  pub value_is : x.value ≡ value
  pub process_is : x.process ≡ process
  pub first_is : x.first ≡ s.first
  pub last_is : x.last ≡ s.last

-- a stretch of these, of writers of the value, has the place of the process
abbrev pub IsLeftAt : List LeftStretch → ℕ → ℕ → ℕ → Type 0
IsLeftAt left value process place = (x : LeftStretch) × Contains left x × (x.value ≡ value) × (x.process ≡ process) × (x.first ≤ place) × (place ≤ x.last)

-- the main stretch of the process is left
abbrev pub IsMainLeft : List LeftStretch → ℕ → ℕ → Stretches → Type 0
IsMainLeft left value process s = (k : ℕ) → 1 ≤ s.first → s.first ≤ k → k ≤ s.last → IsLeftAt left value process k

-- each clause that has the new orders bars the operation of these numbers, or it is left
abbrev pub IsPlaceLeft : TraceValue → List OrderPair → List LeftStretch → ℕ → OperationPlace → SourcePieces → OperationPlace → Type 0
IsPlaceLeft t new left value r pieces n = (clause : List (OpName × OpName)) (location : List ℕ) (d : ℕ) → AreIn t new clause → IsKnown t r → AreGiven t location d r pieces → IsKnown t n → IsBarred t clause location d (named t r) (named t n) ⊎ IsLeftAt left value n.process n.place

-- the same of each operation of the run from which r may read; in r's own process that is one at most
abbrev pub IsRunLeft : TraceValue → List OrderPair → List LeftStretch → ℕ → OperationPlace → Origin → ℕ → SourcePieces → Run → Type 0
IsRunLeft t new left value r origin own pieces run =
    IsKnownRun t run → (k : ℕ) → Contains run.places k → AllowsWriter origin (named t (at_number run.process k)) → (run.process ≡ r.process → k ≡ own) → IsPlaceLeft t new left value r pieces (at_number run.process k)

abbrev pub AreRunsLeft : TraceValue → List OrderPair → List LeftStretch → ℕ → OperationPlace → Origin → ℕ → SourcePieces → List Run → Type 0
AreRunsLeft t new left value r origin own pieces runs = (run : Run) → Contains runs run → IsRunLeft t new left value r origin own pieces run

-- each clause that has the new orders bars the initial value, if it is d and r may read it, or it is left
abbrev pub IsStartLeft : TraceValue → List OrderPair → Bool → OperationPlace → Origin → SourcePieces → List ℕ → ℕ → Type 0
IsStartLeft t new is_left r origin pieces location d =
    (clause : List (OpName × OpName)) → AreIn t new clause → IsKnown t r → AreGiven t location d r pieces → value_of t.initial location ≡ Some d → AllowsInitial origin → IsInitialBarred t clause location d (named t r) ⊎ (is_left ≡ true)

-- w is a writer of the location in one of these stretches
pub record IsLeftBy (t : TraceValue) (writers : TraceWriters) (location : List ℕ) (left : List LeftStretch) (w : OpName) : Type 0 where
  pub stretch : LeftStretch
  pub kept : Contains left stretch
  pub run : Run
  pub listed : Contains (runs_at writers location stretch.value) run
  pub process : stretch.process ≡ run.process
  pub place : ℕ
  pub there : Contains run.places place
  pub least : stretch.first ≤ place
  pub most : place ≤ stretch.last
  pub named_so : named t (at_number run.process place) ≡ w

-- each clause that has the new orders bars each source of r that reads d at the location, or it is left
pub record AreSourcesLeft (t : TraceValue) (table : TraceWriters) (new : List OrderPair) (left : List LeftStretch) (is_initial_left : Bool) (r : OperationPlace) (origin : Origin) (pieces : SourcePieces) (location : List ℕ) (d : ℕ) : Type 0 where
  pub writers : (clause : List (OpName × OpName)) → AreIn t new clause → IsKnown t r → AreGiven t location d r pieces → (w : OpName) → value_left_at t location w ≡ Some d → AllowsWriter origin w → IsBarred t clause location d (named t r) w ⊎ IsLeftBy t table location left w
  pub initial : IsStartLeft t new is_initial_left r origin pieces location d

-- the source is among those that are left
abbrev pub IsLeft : TraceValue → TraceWriters → LeftSources → ValueSource → Type 0
IsLeft t writers left (LeftBy w) = IsLeftBy t writers left.location.now left.stretches.items w
IsLeft t writers left (InitialAt location) = (left.is_initial_left ≡ true) × (location ≡ left.location.now)
