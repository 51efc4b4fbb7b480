-- The words of members.
use Rattle.std.specs.Prelude.{⊤, ℕ, List, [], ◌∷◌, codes}
use Rattle.trace_semantics.specs.Trace.{TraceValue}
use Rattle.order_clauses.specs.Numbered.{IsKnown}
use Rattle.reason_text.specs.OperationWord.{operation_word}
use Rattle.reason_text.specs.SourcePiece.{piece_words, IsKnownPiece}
use Rattle.reason_text.specs.declared.member_part.MemberPart.{MemberPart}
use Rattle.reason_text.specs.declared.member_part.MemberPart.TheVariants.{Reads, Waits, Ends, Piece}

-- how a member or a piece of one is written
abbrev pub part_words : TraceValue → MemberPart → List (List ℕ)
part_words t (Reads reader) = codes "r" ∷ operation_word t reader ∷ []
part_words t (Waits pair) = codes "m" ∷ operation_word t pair.first ∷ operation_word t pair.second ∷ []
part_words t (Ends location) = codes "l" ∷ location.now ∷ []
part_words t (Piece piece) = piece_words t piece

-- the operations that the part names are of the trace
abbrev pub IsKnownPart : TraceValue → MemberPart → Type 0
IsKnownPart t (Reads reader) = IsKnown t reader
IsKnownPart t (Waits pair) = IsKnown t pair.first × IsKnown t pair.second
IsKnownPart t (Ends location) = ⊤
IsKnownPart t (Piece piece) = IsKnownPiece t piece
