-- Verdicts on the pieces of a text, and how the pieces are cut off.
use Rattle.std.specs.Prelude.{◌≡◌, ◌+◌, ℕ, Bool, true, List, [], ◌∷◌, ◌++◌, length}
use Rattle.batch_report.specs.declared.block.PlacedPiece.{PlacedPiece}
use Rattle.batch_report.specs.declared.piece_verdict.PieceVerdict.{PieceVerdict}
use Rattle.batch_report.specs.PieceVerdicts.{IsVerdictOn}
use Rattle.text_lines.specs.Lines.{lines_of}
use Rattle.trace_pieces.specs.Pieces.{IsCut}

-- the verdict is on the first piece of the text behind a number of lines, and this is so of what follows the piece
pub record NextVerdict (before : ℕ) (text : List ℕ) (verdict : PieceVerdict) (Others : ℕ → List ℕ → Type 0) : Type 0 where
  pub piece : List ℕ
  pub after : List ℕ
  pub cut : IsCut text piece after
  pub is_on : IsVerdictOn before piece verdict
  pub others : Others (before + length (lines_of piece)) after

-- The verdicts are on the first pieces of the text behind a number of lines, in their order. What follows these pieces is the rest, and
-- this number of lines stand before that.
abbrev pub AreVerdictsOn : ℕ → List ℕ → List PieceVerdict → ℕ → List ℕ → Type 0
AreVerdictsOn before text [] before_rest rest = (text ≡ rest) × (before ≡ before_rest)
AreVerdictsOn before text (verdict ∷ verdicts) before_rest rest =
    NextVerdict before text verdict (λ lines after. AreVerdictsOn lines after verdicts before_rest rest)

-- ---- as they are cut off

-- this is the first piece of the text, with the number of lines before it, and this is so of what follows the piece
pub record NextPiece (before : ℕ) (text : List ℕ) (piece : PlacedPiece) (Others : ℕ → List ℕ → Type 0) : Type 0 where
  pub after : List ℕ
  pub cut : IsCut text piece.text.now after
  pub before_is : piece.before ≡ before
  pub others : Others (before + length (lines_of piece.text.now)) after

-- these are the first pieces of the text, each with the number of lines before it; and what follows them
abbrev pub AreCutFrom : ℕ → List ℕ → List PlacedPiece → ℕ → List ℕ → Type 0
AreCutFrom before text [] before_rest rest = (text ≡ rest) × (before ≡ before_rest)
AreCutFrom before text (piece ∷ pieces) before_rest rest = NextPiece before text piece (λ lines after. AreCutFrom lines after pieces before_rest rest)

-- whatever follows the text, unless it is the last one, these are its first pieces
abbrev pub AreCutOff : Bool → ℕ → List ℕ → List PlacedPiece → ℕ → List ℕ → Type 0
AreCutOff is_last before text pieces before_rest rest = (more : List ℕ) → (is_last ≡ true → more ≡ []) → AreCutFrom before (text ++ more) pieces before_rest (rest ++ more)

-- the verdict is on the piece
abbrev pub IsOnPlaced : PlacedPiece → PieceVerdict → Type 0
IsOnPlaced piece verdict = IsVerdictOn piece.before piece.text.now verdict
