-- The words of pieces.
use Rattle.std.specs.Prelude.{ℕ, List, [], ◌∷◌, codes}
use Rattle.trace_semantics.specs.Trace.{TraceValue}
use Rattle.order_clauses.specs.Numbered.{IsKnown}
use Rattle.reason_text.specs.OperationWord.{operation_word}
use Rattle.reason_text.specs.declared.source_piece.SourcePiece.{SourcePiece}
use Rattle.reason_text.specs.declared.source_piece.SourcePiece.TheVariants.{Hidden, Later, Initial, Others, Apart}

-- how a piece is written
abbrev pub piece_words : TraceValue → SourcePiece → List (List ℕ)
piece_words t (Hidden witness bound) = codes "h" ∷ operation_word t witness ∷ operation_word t bound ∷ []
piece_words t (Later limit) = codes "f" ∷ operation_word t limit ∷ []
piece_words t (Initial witness) = codes "i" ∷ operation_word t witness ∷ []
piece_words t (Others witness) = codes "H" ∷ operation_word t witness ∷ []
piece_words t (Apart operation) = codes "L" ∷ operation_word t operation ∷ []

-- the operations that the piece names are of the trace
abbrev pub IsKnownPiece : TraceValue → SourcePiece → Type 0
IsKnownPiece t (Hidden witness bound) = IsKnown t witness × IsKnown t bound
IsKnownPiece t (Later limit) = IsKnown t limit
IsKnownPiece t (Initial witness) = IsKnown t witness
IsKnownPiece t (Others witness) = IsKnown t witness
IsKnownPiece t (Apart operation) = IsKnown t operation
