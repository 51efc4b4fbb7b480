-- What the lines of a certificate say.
use Rattle.std.specs.Prelude.{ℕ, Bool, false, ◌&&◌, List, [], ◌∷◌, Option, None, codes, if◌then◌else◌}
use Rattle.std.specs.Str.{bytes_eq}
use Rattle.text_lines.specs.Kept.{is_dimacs_skipped}
use Rattle.text_lines.specs.Numbers.{plain_number_up_to}
use Rattle.text_lines.specs.Words.{words_of}

-- the largest number of a section
abbrev pub most_number : ℕ
most_number = 4294967295

-- a line that says nothing
abbrev pub is_skipped_line : List ℕ → Bool
is_skipped_line line = is_dimacs_skipped (words_of line)

-- whether the words are those of the header
abbrev pub is_header : List (List ℕ) → Bool
is_header (word ∷ (version ∷ [])) = bytes_eq word (codes "vsc-cert") && bytes_eq version (codes "1")
is_header words = false

-- the leaf whose section the words begin: `proof` and a plain number
abbrev pub begun_by : List (List ℕ) → Option ℕ
begun_by (word ∷ (number ∷ [])) = if bytes_eq word (codes "proof") then plain_number_up_to most_number number else None
begun_by words = None

-- whether the words end a section
abbrev pub is_end : List (List ℕ) → Bool
is_end (word ∷ []) = bytes_eq word (codes "end")
is_end words = false
