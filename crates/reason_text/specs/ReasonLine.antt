-- What a line of a certificate of reasons says.
use Rattle.std.specs.Prelude.{◌≡◌, ⊤, true, List, [], ◌∷◌, ℕ, codes, decimal}
use Rattle.std.specs.List.{All, flat_map}
use Rattle.text_lines.specs.Kept.{is_skipped}
use Rattle.trace_semantics.specs.Trace.{TraceValue}
use Rattle.order_clauses.specs.Numbered.{IsKnown}
use Rattle.reason_text.specs.MemberPart.{part_words, IsKnownPart}
use Rattle.reason_text.specs.OperationWord.{operation_word, operation_words}
use Rattle.reason_text.specs.SourcePiece.{piece_words, IsKnownPiece}
use Rattle.reason_text.specs.declared.reason_line.ReasonLine.{ReasonLine}
use Rattle.reason_text.specs.declared.reason_line.ReasonLine.TheVariants.{Skipped, Cycle, Before, Ended, Variable, Source, Last, TooFew, Counting, Waiting, Derivation}

-- these are the words of the line
abbrev pub AreLineWords : TraceValue → List (List ℕ) → ReasonLine → Type 0
AreLineWords t words Skipped = is_skipped words ≡ true
AreLineWords t words (Cycle operations) = words ≡ codes "c" ∷ operation_words t operations.items
AreLineWords t words (Before pair) = words ≡ codes "b" ∷ operation_words t (pair.first ∷ pair.second ∷ [])
AreLineWords t words (Ended pair) = words ≡ codes "t" ∷ operation_words t (pair.first ∷ pair.second ∷ [])
AreLineWords t words (Variable pair) = words ≡ codes "v" ∷ operation_words t (pair.first ∷ pair.second ∷ [])
AreLineWords t words (Source reader pieces) = words ≡ codes "s" ∷ operation_word t reader ∷ flat_map (piece_words t) pieces.items
AreLineWords t words (Last location pieces) = words ≡ codes "l" ∷ location.now ∷ flat_map (piece_words t) pieces.items
AreLineWords t words (TooFew location value) = words ≡ codes "N" ∷ location.now ∷ decimal value ∷ []
AreLineWords t words (Counting parts) = words ≡ codes "n" ∷ flat_map (part_words t) parts.items
AreLineWords t words (Waiting parts) = words ≡ codes "w" ∷ flat_map (part_words t) parts.items
AreLineWords t words Derivation = words ≡ codes "p" ∷ []

-- the operations that the line names are of the trace
abbrev pub IsKnownLine : TraceValue → ReasonLine → Type 0
IsKnownLine t (Cycle operations) = All (IsKnown t) operations.items
IsKnownLine t (Before pair) = IsKnown t pair.first × IsKnown t pair.second
IsKnownLine t (Ended pair) = IsKnown t pair.first × IsKnown t pair.second
IsKnownLine t (Variable pair) = IsKnown t pair.first × IsKnown t pair.second
IsKnownLine t (Source reader pieces) = IsKnown t reader × All (IsKnownPiece t) pieces.items
IsKnownLine t (Last location pieces) = All (IsKnownPiece t) pieces.items
IsKnownLine t (Counting parts) = All (IsKnownPart t) parts.items
IsKnownLine t (Waiting parts) = All (IsKnownPart t) parts.items
IsKnownLine t Skipped = ⊤
IsKnownLine t (TooFew location value) = ⊤
IsKnownLine t Derivation = ⊤

-- these are the words of the line, and the operations that it names are of the trace
abbrev pub IsReasonLine : TraceValue → List (List ℕ) → ReasonLine → Type 0
IsReasonLine t words line = AreLineWords t words line × IsKnownLine t line
