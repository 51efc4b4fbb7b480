-- Pieces of processes, one more.
use Rattle.std.specs.Prelude.{◌≡◌, ◌≢◌, ◌⊎◌, ℕ, List, Some, None}
use Rattle.std.specs.List.{Contains}
use Rattle.writer_table.specs.declared.operation_place.OperationPlace.{OperationPlace}
use Rattle.reason_clauses.specs.PieceOf.{piece_of}
use Rattle.reason_clauses.specs.declared.pieces.ProcessPieces.{ProcessPieces}

-- these are the pieces of their process now, and those of others are as they were
pub record HasPiece (old new : List ProcessPieces) (piece : ProcessPieces) : Type 0 where
  pub here : piece_of new piece.process ≡ piece
  pub others : (q : ℕ) → q ≢ piece.process → piece_of new q ≡ piece_of old q
  pub only : (p : ProcessPieces) → Contains new p → (p ≡ piece) ⊎ Contains old p

-- `h X U`, the first one of the process: what is up to the bound is hidden by the witness
pub record Hides (old new : List ProcessPieces) (witness bound : OperationPlace) : Type 0 where
  pub free : (piece_of old bound.process).witness ≡ None
  pub put : HasPiece old new (record { process = bound.process; bound = bound.place; witness = Some witness; limit = (piece_of old bound.process).limit })

-- `f U`, the first one of the process: what is from the limit on comes later
pub record TakesLater (old new : List ProcessPieces) (limit : OperationPlace) : Type 0 where
  pub free : (piece_of old limit.process).limit ≡ 0
  pub put : HasPiece old new (record { process = limit.process; bound = (piece_of old limit.process).bound; witness = (piece_of old limit.process).witness; limit = limit.place })
