-- How a text that has many traces is cut into pieces.
use Rattle.std.specs.Prelude.{◌≡◌, ◌⊎◌, ◌<◌, ℕ, Bool, true, false, not, List, [], ◌∷◌, ◌++◌, length, codes, if◌then◌else◌}
use Rattle.std.specs.List.{list_any}
use Rattle.std.specs.Str.{bytes_eq}
use Rattle.text_lines.specs.Kept.{is_skipped}
use Rattle.text_lines.specs.Lines.{lines_of}
use Rattle.text_lines.specs.Words.{words_of}

-- the first of these words is `vsc`
abbrev pub are_of_header : List (List ℕ) → Bool
are_of_header [] = false
are_of_header (word ∷ words) = bytes_eq word (codes "vsc")

-- the line begins a trace
abbrev pub begins_trace : List ℕ → Bool
begins_trace line = are_of_header (words_of line)

-- the line says something: it has words, and is no comment
abbrev pub says : List ℕ → Bool
says line = not (is_skipped (words_of line))

-- of these lines none begins a trace, but perhaps the first one that says something
abbrev pub hold_one : List (List ℕ) → Bool
hold_one [] = true
hold_one (line ∷ lines) = if says line then not (list_any begins_trace lines) else hold_one lines

-- there is a first line, and it begins a trace
abbrev pub start_trace : List (List ℕ) → Bool
start_trace [] = false
start_trace (line ∷ lines) = begins_trace line

-- The text is this piece, which is not empty, and then the rest. The cut goes between two lines. No line of the piece begins a trace, but
-- perhaps the first one that says something; and the rest is empty, or a line of the piece says something and the first of the rest begins a
-- trace.
pub record IsCut (text piece rest : List ℕ) : Type 0 where
  pub parts : text ≡ piece ++ rest
  pub some : 0 < length piece
  pub lines : lines_of text ≡ lines_of piece ++ lines_of rest
  pub one : hold_one (lines_of piece) ≡ true
  pub next : (rest ≡ []) ⊎ ((list_any says (lines_of piece) ≡ true) × (start_trace (lines_of rest) ≡ true))

-- the text is cut into these pieces, in their order
abbrev pub ArePieces : List ℕ → List (List ℕ) → Type 0
ArePieces text [] = text ≡ []
ArePieces text (piece ∷ pieces) = (rest : List ℕ) × IsCut text piece rest × ArePieces rest pieces

-- whatever follows the text, unless it is the last one, this is its first piece, and then comes the rest
abbrev pub IsCutOff : (is_last : Bool) (text piece rest : List ℕ) → Type 0
IsCutOff is_last text piece rest = (more : List ℕ) → (is_last ≡ true → more ≡ []) → IsCut (text ++ more) piece (rest ++ more)
