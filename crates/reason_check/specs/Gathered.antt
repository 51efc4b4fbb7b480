-- The pieces of a line, gathered by what they take.
use Rattle.std.specs.Prelude.{◌≡◌, ◌≢◌, ◌≤◌, ◌<◌, ◌⊎◌, ℕ, Bool, true, false, List, Option, Some, None, take}
use Rattle.std.specs.List.{Contains, slice_get}
use Rattle.writer_table.specs.declared.operation_place.OperationPlace.{OperationPlace}
use Rattle.reason_clauses.specs.PieceOf.{piece_of}
use Rattle.reason_clauses.specs.declared.cause.ReasonCause.{ReasonCause}
use Rattle.reason_clauses.specs.declared.cause.ReasonCause.TheVariants.{BadLine, SecondPiece}
use Rattle.reason_clauses.specs.declared.barring.MainPiece.{MainPiece}
use Rattle.reason_clauses.specs.declared.barring.MainPiece.TheVariants.{Plain, Witness, Between}
use Rattle.reason_clauses.specs.declared.pieces.ProcessPieces.{ProcessPieces}
use Rattle.reason_clauses.specs.declared.pieces.SourcePieces.{SourcePieces}
use Rattle.reason_text.specs.declared.source_piece.SourcePiece.{SourcePiece}
use Rattle.reason_text.specs.declared.source_piece.SourcePiece.TheVariants.{Hidden, Later, Initial, Others, Apart}

-- the main piece that it is, if it takes all that no other piece does
abbrev pub main_of : SourcePiece → Option MainPiece
main_of (Hidden x b) = None
main_of (Later l) = None
main_of (Initial x) = None
main_of (Others x) = Some (Witness x)
main_of (Apart u) = Some (Between u)

-- each listed piece is taken, and nothing else is
pub record AreGathered (listed : List SourcePiece) (pieces : SourcePieces) : Type 0 where
  pub hidden : (x b : OperationPlace) → Contains listed (Hidden x b) → ((piece_of pieces.processes.items b.process).witness ≡ Some x) × ((piece_of pieces.processes.items b.process).bound ≡ b.place)
  pub later : (l : OperationPlace) → Contains listed (Later l) → 1 ≤ l.place → (piece_of pieces.processes.items l.process).limit ≡ l.place
  pub initial : (x : OperationPlace) → Contains listed (Initial x) → pieces.initial ≡ Some x
  pub main : (p : SourcePiece) (m : MainPiece) → Contains listed p → main_of p ≡ Some m → pieces.main ≡ m
  pub only_hidden : (p : ProcessPieces) (x : OperationPlace) → Contains pieces.processes.items p → p.witness ≡ Some x → Contains listed (Hidden x (record { process = p.process; place = p.bound }))
  pub unhidden : (p : ProcessPieces) → Contains pieces.processes.items p → p.witness ≡ None → p.bound ≡ 0
  pub only_later : (p : ProcessPieces) → Contains pieces.processes.items p → 1 ≤ p.limit → Contains listed (Later (record { process = p.process; place = p.limit }))
  pub only_initial : (x : OperationPlace) → pieces.initial ≡ Some x → Contains listed (Initial x)
  pub only_main : pieces.main ≢ Plain → (p : SourcePiece) × Contains listed p × (main_of p ≡ Some pieces.main)

-- what of which a line has one: what is hidden in a process, what comes later there, the initial value, and all others
abbrev pub kind_of : SourcePiece → ℕ × ℕ
kind_of (Hidden x b) = (0, b.process)
kind_of (Later l) = (1, l.process)
kind_of (Initial x) = (2, 0)
kind_of (Others x) = (3, 0)
kind_of (Apart u) = (3, 0)

-- one of these is of the kind of this piece
abbrev pub HasOfKind : List SourcePiece → SourcePiece → Type 0
HasOfKind listed piece = (p : SourcePiece) × Contains listed p × (kind_of p ≡ kind_of piece)

-- two of the pieces are of one kind
abbrev pub HasSecond : List SourcePiece → Type 0
HasSecond listed = (k : ℕ) × (piece : SourcePiece) × (slice_get listed k ≡ Some piece) × HasOfKind (take k listed) piece

-- the piece may be one of last writers: those come after each reader, and the initial value is none of them
abbrev pub is_late_piece : SourcePiece → Bool
is_late_piece (Hidden x b) = true
is_late_piece (Later l) = false
is_late_piece (Initial x) = false
is_late_piece (Others x) = true
is_late_piece (Apart u) = false

-- what is wrong with pieces of last writers: two are of one kind, or one is none of last writers
abbrev pub IsLateRefused : List SourcePiece → ReasonCause → Type 0
IsLateRefused listed cause = (HasSecond listed × (cause ≡ SecondPiece)) ⊎ ((p : SourcePiece) × Contains listed p × (is_late_piece p ≡ false) × (cause ≡ BadLine))
