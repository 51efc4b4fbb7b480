-- Which possible last writers of a location the new orders of a clause bar.
use Rattle.std.specs.Prelude.{◌≡◌, ◌≢◌, ◌⊎◌, ◌<◌, ℕ, List, length, Option, Some, None, IsSome, IfSome}
use Rattle.std.specs.List.{All, Contains}
use Rattle.trace_semantics.specs.declared.operation.Op.{Op}
use Rattle.trace_semantics.specs.declared.operation.OpName.{OpName}
use Rattle.trace_semantics.specs.Trace.{TraceValue, value_of}
use Rattle.trace_semantics.specs.ValueAfter.{value_left_at}
use Rattle.restriction.specs.Restriction.{left_by}
use Rattle.writer_table.specs.declared.operation_place.OperationPlace.{OperationPlace}
use Rattle.writer_table.specs.Runs.{IsIn}
use Rattle.writer_table.specs.declared.runs.Run.{Run}
use Rattle.order_clauses.specs.declared.order_pair.OrderPair.{OrderPair}
use Rattle.order_clauses.specs.Numbered.{named, IsKnown}
use Rattle.order_reasons.specs.Sources.{IsLateWitness, IsLastBarred}
use Rattle.reason_clauses.specs.declared.barring.MainPiece.{MainPiece}
use Rattle.reason_clauses.specs.declared.barring.MainPiece.TheVariants.{Plain, Witness, Between}
use Rattle.reason_clauses.specs.declared.pieces.ProcessPieces.{ProcessPieces}
use Rattle.reason_clauses.specs.declared.pieces.SourcePieces.{SourcePieces}
use Rattle.reason_clauses.specs.Makers.{read_by}
use Rattle.reason_clauses.specs.Numbered.{at_number, AreIn}

-- the operation writes the location, or reads another value there than the final one
abbrev pub DoesHideLate : List ℕ → Option ℕ → Op → Type 0
DoesHideLate location last op = IsSome (left_by location op) ⊎ ((e : ℕ) × (d : ℕ) × (read_by location op ≡ Some e) × (last ≡ Some d) × (e ≢ d))

-- the final value, if there is one, is this
abbrev pub MayBeFinal : Option ℕ → ℕ → Type 0
MayBeFinal last e = (d : ℕ) → last ≡ Some d → d ≡ e

abbrev pub witness_of : MainPiece → Option OperationPlace
witness_of Plain = None
witness_of (Witness x) = Some x
witness_of (Between u) = None

-- x is a witness against a last writer of the location
abbrev pub IsGivenLate : TraceValue → List ℕ → OperationPlace → Type 0
IsGivenLate t location x = IsKnown t x × IsLateWitness t location (named t x)

-- each witness of the pieces is one
pub record AreGivenLate (t : TraceValue) (location : List ℕ) (pieces : SourcePieces) : Type 0 where
  pub processes : All (λ (p : ProcessPieces). IfSome p.witness (IsGivenLate t location)) pieces.processes.items
  pub main : IfSome (witness_of pieces.main) (IsGivenLate t location)

-- some operation writes the location
abbrev pub HasWriter : TraceValue → List ℕ → Type 0
HasWriter t location = (w : OpName) × IsSome (value_left_at t location w)

-- the operation, if the trace has it, does not write the location
abbrev pub IsUnwrittenBy : TraceValue → List ℕ → OperationPlace → Type 0
IsUnwrittenBy t location n = IsKnown t n → value_left_at t location (named t n) ≡ None

-- the runs have each operation that writes the location
abbrev pub HasAllWriters : TraceValue → List ℕ → List Run → Type 0
HasAllWriters t location runs = (q k d : ℕ) → q < length t.processes → value_left_at t location (named t (at_number q k)) ≡ Some d → IsIn runs q k

-- the places of the run are those of the operations of its process that write the location
pub record IsWriterRun (t : TraceValue) (location : List ℕ) (run : Run) : Type 0 where
  pub all : (k d : ℕ) → IsKnown t (at_number run.process k) → value_left_at t location (named t (at_number run.process k)) ≡ Some d → Contains run.places k
  pub only : (k : ℕ) → Contains run.places k → IsKnown t (at_number run.process k) × IsSome (value_left_at t location (named t (at_number run.process k)))

-- of each process that writes the location one run has all operations that do, and the runs have no others
pub record AreWriterRuns (t : TraceValue) (location : List ℕ) (runs : List Run) : Type 0 where
  pub all : HasAllWriters t location runs
  pub each : (run : Run) → Contains runs run → IsWriterRun t location run

-- each clause that has the new orders bars what may be the last writer of the location in the process
abbrev pub IsLastOfProcessBarred : TraceValue → List OrderPair → List ℕ → SourcePieces → ℕ → Type 0
IsLastOfProcessBarred t new location pieces process = (clause : List (OpName × OpName)) → AreIn t new clause → AreGivenLate t location pieces → (k e : ℕ) → IsKnown t (at_number process k) →
    value_left_at t location (named t (at_number process k)) ≡ Some e → MayBeFinal (value_of t.final_values location) e → IsLastBarred t clause location (named t (at_number process k))

-- the same in each process that one of the runs is of
abbrev pub AreLastsBarred : TraceValue → List OrderPair → List ℕ → SourcePieces → List Run → Type 0
AreLastsBarred t new location pieces runs = (run : Run) → Contains runs run → IsLastOfProcessBarred t new location pieces run.process
