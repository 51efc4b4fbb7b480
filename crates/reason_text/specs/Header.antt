-- The header of a certificate of reasons.
use Rattle.std.specs.Prelude.{◌≡◌, ℕ, Bool, true, false, ◌&&◌, List, [], ◌∷◌, codes}
use Rattle.std.specs.Str.{bytes_eq}
use Rattle.text_lines.specs.Lines.{lines_of}
use Rattle.text_lines.specs.Words.{words_of}

-- whether the words are those of the header
abbrev pub is_header : List (List ℕ) → Bool
is_header (word ∷ (version ∷ [])) = bytes_eq word (codes "vsc-reasons") && bytes_eq version (codes "1")
is_header words = false

-- whether the first of the lines is the header
abbrev pub is_headed : List (List ℕ) → Bool
is_headed (line ∷ lines) = is_header (words_of line)
is_headed [] = false

-- whether the text is that of a certificate of reasons, by its first line
abbrev pub begins_reasons : List ℕ → Bool
begins_reasons text = is_headed (lines_of text)

-- the first line of the text is the header, and the second text has the others
pub record HasHeader (text rest : List ℕ) : Type 0 where
  pub header : List ℕ
  pub lines : lines_of text ≡ header ∷ lines_of rest
  pub headed : is_header (words_of header) ≡ true
