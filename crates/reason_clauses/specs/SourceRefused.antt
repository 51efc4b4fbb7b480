-- Which readers with pieces are refused, and what orders they ask for.
use Rattle.std.specs.Prelude.{◌≡◌, ◌≤◌, ◌⊎◌, ℕ, List, Some, None}
use Rattle.trace_semantics.specs.declared.operation.Op.{Op}
use Rattle.trace_semantics.specs.declared.operation.Origin.{Origin}
use Rattle.trace_semantics.specs.Operation.{location_of, value_read, origin_of}
use Rattle.trace_semantics.specs.Trace.{TraceValue}
use Rattle.writer_table.specs.declared.operation_place.OperationPlace.{OperationPlace}
use Rattle.order_clauses.specs.declared.order_pair.OrderPair.{OrderPair}
use Rattle.reason_clauses.specs.AddedOrders.{IsOrder}
use Rattle.reason_clauses.specs.LastBarred.{witness_of}
use Rattle.reason_clauses.specs.LastRefused.{IsWitnessOf}
use Rattle.reason_clauses.specs.Makers.{IsNumberOf}
use Rattle.reason_clauses.specs.Numbered.{IsGivenWitness}
use Rattle.reason_clauses.specs.PieceOf.{piece_of}
use Rattle.reason_clauses.specs.PossibleSources.{IsPossibleSource, IsInitialPossible, IsHidden, IsLater, IsOther, IsFirstOf, IsLastOf, pieces_at}
use Rattle.reason_clauses.specs.RefusedBy.{IsMissingNumber}
use Rattle.reason_clauses.specs.declared.barring.MainPiece.{MainPiece}
use Rattle.reason_clauses.specs.declared.barring.MainPiece.TheVariants.{Plain, Between}
use Rattle.reason_clauses.specs.declared.cause.ReasonCause.{ReasonCause}
use Rattle.reason_clauses.specs.declared.cause.ReasonCause.TheVariants.{NoReader, NoWitness, HidesItself, InitialLeft}
use Rattle.reason_clauses.specs.declared.pieces.SourcePieces.{SourcePieces}

-- x is the witness of a piece
abbrev pub IsWitnessIn : SourcePieces → OperationPlace → Type 0
IsWitnessIn pieces x = IsWitnessOf pieces.processes.items x ⊎ ((pieces.initial ≡ Some x) ⊎ (witness_of pieces.main ≡ Some x))

-- the witness against the initial value: that of `i`, and else that of `H`
abbrev pub IsInitialWitness : SourcePieces → OperationPlace → Type 0
IsInitialWitness pieces x = (pieces.initial ≡ Some x) ⊎ ((pieces.initial ≡ None) × (witness_of pieces.main ≡ Some x))

-- x is no witness against d at the location, or it is r itself
abbrev pub IsNoWitness : TraceValue → List ℕ → ℕ → OperationPlace → OperationPlace → ReasonCause → Type 0
IsNoWitness t location d r x cause = (IsGivenWitness t location d r x → ⊥) × (cause ≡ NoWitness)

-- the same of the witness of the main piece; or the trace has not its operation
abbrev pub IsMainNotGiven : TraceValue → List ℕ → ℕ → OperationPlace → MainPiece → ReasonCause → Type 0
IsMainNotGiven t location d r main cause = ((x : OperationPlace) × (witness_of main ≡ Some x) × IsNoWitness t location d r x cause) ⊎ ((u : OperationPlace) × (main ≡ Between u) × IsMissingNumber t u cause)

-- a piece names what is no witness, `L` an operation that the trace has not, or `h` no witness
pub data AreNotGiven (t : TraceValue) (location : List ℕ) (d : ℕ) (r : OperationPlace) (pieces : SourcePieces) (cause : ReasonCause) : Type 0 where
  NotWitness : (x : OperationPlace) → IsWitnessIn pieces x → IsNoWitness t location d r x cause → AreNotGiven t location d r pieces cause
  NoBetween : (u : OperationPlace) → pieces.main ≡ Between u → IsMissingNumber t u cause → AreNotGiven t location d r pieces cause
  Unwitnessed : (q : ℕ) → 1 ≤ (piece_of pieces.processes.items q).bound → (piece_of pieces.processes.items q).witness ≡ None → cause ≡ NoWitness → AreNotGiven t location d r pieces cause

-- r may read d at the location from w
abbrev pub IsSource : TraceValue → OperationPlace → SourcePieces → Origin → List ℕ → ℕ → OperationPlace → Type 0
IsSource t r pieces origin location d w = IsPossibleSource t r origin location d w

-- c is the last of the sources in its process that `h` takes, by the witness x
abbrev pub IsLastHidden : TraceValue → OperationPlace → SourcePieces → Origin → List ℕ → ℕ → OperationPlace → OperationPlace → Type 0
IsLastHidden t r pieces origin location d x c = ((pieces_at pieces c).witness ≡ Some x) × IsLastOf (λ w. IsSource t r pieces origin location d w × IsHidden pieces w) c

-- c is the last of the sources in its process that `H` takes, by the witness x
abbrev pub IsLastOther : TraceValue → OperationPlace → SourcePieces → Origin → List ℕ → ℕ → OperationPlace → OperationPlace → Type 0
IsLastOther t r pieces origin location d x c = (witness_of pieces.main ≡ Some x) × IsLastOf (λ w. IsSource t r pieces origin location d w × IsOther pieces w) c

-- c is the first of the sources in its process that neither `h` nor `f` takes
abbrev pub IsFirstOther : TraceValue → OperationPlace → SourcePieces → Origin → List ℕ → ℕ → OperationPlace → Type 0
IsFirstOther t r pieces origin location d c = IsFirstOf (λ w. IsSource t r pieces origin location d w × IsOther pieces w) c

-- the orders that the pieces of processes ask for, by the witness or the source c
pub data IsPieceOrder (t : TraceValue) (r : OperationPlace) (pieces : SourcePieces) (origin : Origin) (location : List ℕ) (d : ℕ) (o : OrderPair) : Type 0 where
  BeforeHiddenSource : (x c : OperationPlace) → IsLastHidden t r pieces origin location d x c → IsOrder x c o → IsPieceOrder t r pieces origin location d o
  AfterHiddenSource : (x c : OperationPlace) → IsLastHidden t r pieces origin location d x c → IsOrder r x o → IsPieceOrder t r pieces origin location d o
  FromLaterSource : (c : OperationPlace) → IsFirstOf (λ w. IsSource t r pieces origin location d w × IsLater pieces w) c → IsOrder c r o → IsPieceOrder t r pieces origin location d o

-- and that the main piece asks for
pub data IsMainOrder (t : TraceValue) (r : OperationPlace) (pieces : SourcePieces) (origin : Origin) (location : List ℕ) (d : ℕ) (o : OrderPair) : Type 0 where
  BeforeOtherSource : (x c : OperationPlace) → IsLastOther t r pieces origin location d x c → IsOrder x c o → IsMainOrder t r pieces origin location d o
  AfterOtherSource : (x c : OperationPlace) → IsLastOther t r pieces origin location d x c → IsOrder r x o → IsMainOrder t r pieces origin location d o
  ToBetween : (u c : OperationPlace) → pieces.main ≡ Between u → IsFirstOther t r pieces origin location d c → IsOrder c u o → IsMainOrder t r pieces origin location d o
  FromBetween : (u c : OperationPlace) → pieces.main ≡ Between u → IsFirstOther t r pieces origin location d c → IsOrder u r o → IsMainOrder t r pieces origin location d o
  ToReader : (c : OperationPlace) → pieces.main ≡ Plain → IsFirstOther t r pieces origin location d c → IsOrder c r o → IsMainOrder t r pieces origin location d o

-- both
abbrev pub IsStretchOrder : TraceValue → OperationPlace → SourcePieces → Origin → List ℕ → ℕ → OrderPair → Type 0
IsStretchOrder t r pieces origin location d o = IsPieceOrder t r pieces origin location d o ⊎ IsMainOrder t r pieces origin location d o

-- the order that a witness against the initial value asks for
abbrev pub IsInitialOrder : TraceValue → OperationPlace → SourcePieces → Origin → List ℕ → ℕ → OrderPair → Type 0
IsInitialOrder t r pieces origin location d o = (x : OperationPlace) × IsInitialPossible t origin location d × IsInitialWitness pieces x × IsOrder r x o

-- the orders that all pieces ask for
abbrev pub IsReaderOrder : TraceValue → OperationPlace → SourcePieces → Origin → List ℕ → ℕ → OrderPair → Type 0
IsReaderOrder t r pieces origin location d o = IsStretchOrder t r pieces origin location d o ⊎ IsInitialOrder t r pieces origin location d o

-- the pieces of processes: one is not given, or the last source that `h` takes is the witness itself
pub data IsPartlyRefused (t : TraceValue) (r : OperationPlace) (pieces : SourcePieces) (origin : Origin) (location : List ℕ) (d : ℕ) (cause : ReasonCause) : Type 0 where
  NotGiven : AreNotGiven t location d r pieces cause → IsPartlyRefused t r pieces origin location d cause
  HiddenItself : (x : OperationPlace) → IsLastHidden t r pieces origin location d x x → cause ≡ HidesItself → IsPartlyRefused t r pieces origin location d cause

-- all pieces: these are refused, the last source that `H` takes is the witness itself, or no piece takes the initial value
pub data IsReaderRefused (t : TraceValue) (r : OperationPlace) (pieces : SourcePieces) (origin : Origin) (location : List ℕ) (d : ℕ) (cause : ReasonCause) : Type 0 where
  Partly : IsPartlyRefused t r pieces origin location d cause → IsReaderRefused t r pieces origin location d cause
  OtherItself : (x : OperationPlace) → IsLastOther t r pieces origin location d x x → cause ≡ HidesItself → IsReaderRefused t r pieces origin location d cause
  InitialOpen : IsInitialPossible t origin location d → ((x : OperationPlace) → IsInitialWitness pieces x → ⊥) → cause ≡ InitialLeft → IsReaderRefused t r pieces origin location d cause

-- the trace has no such operation, or it reads nothing
abbrev pub IsNoReader : TraceValue → OperationPlace → ReasonCause → Type 0
IsNoReader t r cause = IsMissingNumber t r cause ⊎ ((op : Op) × IsNumberOf t r op × (value_read op ≡ None) × (cause ≡ NoReader))

-- a line `s`: it names no reader, or its pieces are refused
abbrev pub IsSourceRefused : TraceValue → OperationPlace → SourcePieces → ReasonCause → Type 0
IsSourceRefused t r pieces cause = IsNoReader t r cause ⊎ ((op : Op) × (d : ℕ) × IsNumberOf t r op × (value_read op ≡ Some d) × IsReaderRefused t r pieces (origin_of op) (location_of op) d cause)

-- the orders that a line `s` asks for
abbrev pub IsSourceOrder : TraceValue → OperationPlace → SourcePieces → OrderPair → Type 0
IsSourceOrder t r pieces o = (op : Op) × (d : ℕ) × IsNumberOf t r op × (value_read op ≡ Some d) × IsReaderOrder t r pieces (origin_of op) (location_of op) d o
