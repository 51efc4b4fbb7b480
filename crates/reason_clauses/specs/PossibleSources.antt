-- The possible sources of a reader, by numbers, and which piece takes each.
use Rattle.std.specs.Prelude.{◌≡◌, ◌≤◌, ◌<◌, ◌⊎◌, ℕ, List, Some}
use Rattle.std.specs.List.{Contains}
use Rattle.trace_semantics.specs.declared.operation.Origin.{Origin}
use Rattle.trace_semantics.specs.Trace.{TraceValue, value_of}
use Rattle.trace_semantics.specs.ValueAfter.{value_left_at}
use Rattle.writer_table.specs.declared.operation_place.OperationPlace.{OperationPlace}
use Rattle.writer_table.specs.declared.runs.Run.{Run}
use Rattle.order_clauses.specs.Numbered.{named, IsKnown}
use Rattle.order_reasons.specs.Sources.{AllowsWriter, AllowsInitial}
use Rattle.reason_clauses.specs.declared.pieces.ProcessPieces.{ProcessPieces}
use Rattle.reason_clauses.specs.declared.pieces.SourcePieces.{SourcePieces}
use Rattle.reason_clauses.specs.Numbered.{at_number}
use Rattle.reason_clauses.specs.OwnLast.{IsOwnLast}
use Rattle.reason_clauses.specs.PieceOf.{piece_of}

-- r may read d at the location from w: w leaves it there, and what is said of the value's origin lets it come from w, which in r's own process is the last writer before r
pub record IsPossibleSource (t : TraceValue) (r : OperationPlace) (origin : Origin) (location : List ℕ) (d : ℕ) (w : OperationPlace) : Type 0 where
  pub known : IsKnown t w
  pub leaves : value_left_at t location (named t w) ≡ Some d
  pub allowed : AllowsWriter origin (named t w)
  pub own : w.process ≡ r.process → IsOwnLast t r location w.place

-- r may read d at the location as the initial value
abbrev pub IsInitialPossible : TraceValue → Origin → List ℕ → ℕ → Type 0
IsInitialPossible t origin location d = (value_of t.initial location ≡ Some d) × AllowsInitial origin

-- the run has each operation of its process that leaves d at the location, and no others
pub record IsWholeRun (t : TraceValue) (location : List ℕ) (d : ℕ) (run : Run) : Type 0 where
  pub all : (k : ℕ) → IsKnown t (at_number run.process k) → value_left_at t location (named t (at_number run.process k)) ≡ Some d → Contains run.places k
  pub only : (k : ℕ) → Contains run.places k → IsKnown t (at_number run.process k) × (value_left_at t location (named t (at_number run.process k)) ≡ Some d)

-- so is each of these runs
abbrev pub AreWholeRuns : TraceValue → List ℕ → ℕ → List Run → Type 0
AreWholeRuns t location d runs = (run : Run) → Contains runs run → IsWholeRun t location d run

-- the run is one of another process than r's
abbrev pub IsOtherRun : TraceValue → OperationPlace → List ℕ → ℕ → Run → Type 0
IsOtherRun t r location d run = IsWholeRun t location d run × (run.process ≡ r.process → ⊥)

-- this is the place in r's own process from which r may read, or 0
abbrev pub IsOwnExact : TraceValue → OperationPlace → Origin → List ℕ → ℕ → ℕ → Type 0
IsOwnExact t r origin location d own = (own ≡ 0) ⊎ IsPossibleSource t r origin location d (at_number r.process own)

-- the place is from the limit on and past the bound; a limit of 0 is none
abbrev pub IsLaterPlace : ℕ → ℕ → ℕ → Type 0
IsLaterPlace bound limit place = (bound < place) × (1 ≤ limit) × (limit ≤ place)

-- the place is past the bound and before the limit, if there is one
abbrev pub IsOtherPlace : ℕ → ℕ → ℕ → Type 0
IsOtherPlace bound limit place = (bound < place) × ((limit ≡ 0) ⊎ (place < limit))

-- the pieces of w's process
abbrev pub pieces_at : SourcePieces → OperationPlace → ProcessPieces
pieces_at pieces w = piece_of pieces.processes.items w.process

-- a piece `h` takes w
abbrev pub IsHidden : SourcePieces → OperationPlace → Type 0
IsHidden pieces w = w.place ≤ (pieces_at pieces w).bound

-- a piece `f` takes w
abbrev pub IsLater : SourcePieces → OperationPlace → Type 0
IsLater pieces w = IsLaterPlace (pieces_at pieces w).bound (pieces_at pieces w).limit w.place

-- neither takes w
abbrev pub IsOther : SourcePieces → OperationPlace → Type 0
IsOther pieces w = IsOtherPlace (pieces_at pieces w).bound (pieces_at pieces w).limit w.place

-- c is the first of such operations in its process
abbrev pub IsFirstOf : (OperationPlace → Type 0) → OperationPlace → Type 0
IsFirstOf Is c = Is c × ((w : OperationPlace) → w.process ≡ c.process → Is w → c.place ≤ w.place)

-- c is the last of them there
abbrev pub IsLastOf : (OperationPlace → Type 0) → OperationPlace → Type 0
IsLastOf Is c = Is c × ((w : OperationPlace) → w.process ≡ c.process → Is w → w.place ≤ c.place)
