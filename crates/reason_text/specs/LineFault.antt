-- What is wrong with a line of a certificate of reasons: the first word that may not stand where it does, or that a word is missing.
use Rattle.std.specs.Prelude.{◌≡◌, ◌≢◌, ◌⊎◌, ◌<◌, ◌^◌, ℕ, Bool, true, false, ◌||◌, List, [], ◌∷◌, ◌++◌, None, codes, decimal, length}
use Rattle.std.specs.List.{All, flat_map}
use Rattle.std.specs.Str.{bytes_eq}
use Rattle.text_lines.specs.Kept.{is_skipped}
use Rattle.trace_semantics.specs.declared.operation.OpName.{OpName}
use Rattle.trace_semantics.specs.ScheduleLimits.{limits_for}
use Rattle.trace_semantics.specs.Trace.{TraceValue, operation_at}
use Rattle.schedule_text.specs.ScheduleText.{is_op_name, name_word}
use Rattle.order_clauses.specs.Numbered.{IsKnown}
use Rattle.writer_table.specs.declared.operation_place.OperationPlace.{OperationPlace}
use Rattle.reason_clauses.specs.declared.cause.ReasonCause.{ReasonCause}
use Rattle.reason_clauses.specs.declared.cause.ReasonCause.TheVariants.{BadLine, NoOperation}
use Rattle.reason_text.specs.MemberPart.{part_words, IsKnownPart}
use Rattle.reason_text.specs.OperationWord.{operation_word, operation_words}
use Rattle.reason_text.specs.SourcePiece.{piece_words, IsKnownPiece}
use Rattle.reason_text.specs.declared.member_part.MemberPart.{MemberPart}
use Rattle.reason_text.specs.declared.source_piece.SourcePiece.{SourcePiece}

-- the trace has no operation of this name
abbrev pub IsMissing : TraceValue → OpName → Type 0
IsMissing t n = operation_at t n ≡ None

-- the word names no operation of the trace: it is no operation's name, or the trace has none of the name
abbrev pub HasNameFault : TraceValue → List ℕ → ReasonCause → Type 0
HasNameFault t word cause =
    (((n : OpName) → is_op_name (limits_for t) n ≡ true → word ≢ name_word n) × (cause ≡ BadLine))
    ⊎ ((n : OpName) × (is_op_name (limits_for t) n ≡ true) × (word ≡ name_word n) × IsMissing t n × (cause ≡ NoOperation))

-- the first of these words names no operation, or there is no word
abbrev pub HasOperandFault : TraceValue → List (List ℕ) → ReasonCause → Type 0
HasOperandFault t [] cause = cause ≡ BadLine
HasOperandFault t (word ∷ words) cause = HasNameFault t word cause

-- fewer operations than are wanted, and then what is none
abbrev pub HasOperandsFault : TraceValue → ℕ → List (List ℕ) → ReasonCause → Type 0
HasOperandsFault t wanted words cause =
    (operations : List OperationPlace) × (rest : List (List ℕ)) × (words ≡ operation_words t operations ++ rest) × All (IsKnown t) operations × (length operations < wanted) × HasOperandFault t rest cause

-- some operations, and then a word that names none
abbrev pub HasNamesFault : TraceValue → List (List ℕ) → ReasonCause → Type 0
HasNamesFault t words cause = (operations : List OperationPlace) × (word : List ℕ) × (rest : List (List ℕ)) × (words ≡ operation_words t operations ++ word ∷ rest) × All (IsKnown t) operations × HasNameFault t word cause

-- not two operations, or something behind them
abbrev pub HasPairFault : TraceValue → List (List ℕ) → ReasonCause → Type 0
HasPairFault t words cause =
    HasOperandsFault t 2 words cause
    ⊎ ((m : OperationPlace) × (n : OperationPlace) × (rest : List (List ℕ)) × (words ≡ operation_word t m ∷ (operation_word t n ∷ rest)) × IsKnown t m × IsKnown t n × (rest ≢ []) × (cause ≡ BadLine))

-- the letter of a piece that names one operation
abbrev pub is_single : List ℕ → Bool
is_single letter = bytes_eq letter (codes "f") || (bytes_eq letter (codes "i") || (bytes_eq letter (codes "H") || bytes_eq letter (codes "L")))

-- this letter with these words behind it is no piece: none has the letter, or it wants an operation more
pub data HasPieceFault (t : TraceValue) (letter : List ℕ) (words : List (List ℕ)) (cause : ReasonCause) : Type 0 where
  NoPiece : letter ≢ codes "h" → is_single letter ≡ false → cause ≡ BadLine → HasPieceFault t letter words cause
  InSingle : is_single letter ≡ true → HasOperandsFault t 1 words cause → HasPieceFault t letter words cause
  InHidden : letter ≡ codes "h" → HasOperandsFault t 2 words cause → HasPieceFault t letter words cause

-- some pieces, and then what is none
abbrev pub HasPiecesFault : TraceValue → List (List ℕ) → ReasonCause → Type 0
HasPiecesFault t words cause =
    (pieces : List SourcePiece) × (letter : List ℕ) × (rest : List (List ℕ)) × (words ≡ flat_map (piece_words t) pieces ++ letter ∷ rest) × All (IsKnownPiece t) pieces × HasPieceFault t letter rest cause

-- this letter with these words behind it is no member, and no piece
pub data HasPartFault (t : TraceValue) (letter : List ℕ) (words : List (List ℕ)) (cause : ReasonCause) : Type 0 where
  InReader : letter ≡ codes "r" → HasOperandsFault t 1 words cause → HasPartFault t letter words cause
  InWaiting : letter ≡ codes "m" → HasOperandsFault t 2 words cause → HasPartFault t letter words cause
  InEnd : letter ≡ codes "l" → words ≡ [] → cause ≡ BadLine → HasPartFault t letter words cause
  InPiece : letter ≢ codes "r" → letter ≢ codes "m" → letter ≢ codes "l" → HasPieceFault t letter words cause → HasPartFault t letter words cause

-- some members and pieces, and then what is none
abbrev pub HasPartsFault : TraceValue → List (List ℕ) → ReasonCause → Type 0
HasPartsFault t words cause =
    (parts : List MemberPart) × (letter : List ℕ) × (rest : List (List ℕ)) × (words ≡ flat_map (part_words t) parts ++ letter ∷ rest) × All (IsKnownPart t) parts × HasPartFault t letter rest cause

-- the letters of lines
abbrev pub kinds : List (List ℕ)
kinds = codes "c" ∷ codes "b" ∷ codes "v" ∷ codes "s" ∷ codes "l" ∷ codes "n" ∷ codes "w" ∷ codes "N" ∷ codes "t" ∷ codes "p" ∷ []

-- what is wrong with the words behind the letter of a line, by the letter
pub data HasKindFault (t : TraceValue) (letter : List ℕ) (words : List (List ℕ)) (cause : ReasonCause) : Type 0 where
  NoKind : All (λ kind. letter ≢ kind) kinds → cause ≡ BadLine → HasKindFault t letter words cause
  InCycle : letter ≡ codes "c" → HasNamesFault t words cause → HasKindFault t letter words cause
  InPair : (letter ≡ codes "b") ⊎ ((letter ≡ codes "v") ⊎ (letter ≡ codes "t")) → HasPairFault t words cause → HasKindFault t letter words cause
  NoReader : letter ≡ codes "s" → HasOperandsFault t 1 words cause → HasKindFault t letter words cause
  InSources : letter ≡ codes "s" → (reader : OperationPlace) (rest : List (List ℕ)) → words ≡ operation_word t reader ∷ rest → IsKnown t reader → HasPiecesFault t rest cause → HasKindFault t letter words cause
  NoLocation : letter ≡ codes "l" → words ≡ [] → cause ≡ BadLine → HasKindFault t letter words cause
  InLastWriters : letter ≡ codes "l" → (location : List ℕ) (rest : List (List ℕ)) → words ≡ location ∷ rest → HasPiecesFault t rest cause → HasKindFault t letter words cause
  NoValue : letter ≡ codes "N" → ((location : List ℕ) (value : ℕ) → value < 2 ^ 64 → words ≢ location ∷ (decimal value ∷ [])) → cause ≡ BadLine → HasKindFault t letter words cause
  InMembers : (letter ≡ codes "n") ⊎ (letter ≡ codes "w") → HasPartsFault t words cause → HasKindFault t letter words cause
  PastMark : letter ≡ codes "p" → words ≢ [] → cause ≡ BadLine → HasKindFault t letter words cause

-- The words, which are not skipped, are those of no line, for this cause.
pub record HasLineFault (t : TraceValue) (words : List (List ℕ)) (cause : ReasonCause) : Type 0 where
  pub letter : List ℕ
  pub rest : List (List ℕ)
  pub parts : words ≡ letter ∷ rest
  pub speaks : is_skipped words ≡ false
  pub fault : HasKindFault t letter rest cause
