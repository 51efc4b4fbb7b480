-- The lines of a formula's text that say something, and their words.
use Rattle.std.specs.Prelude.{ℕ, ◌+◌, Bool, false, not, List, [], ◌∷◌, length, map, ◌==◌, slice_index}
use Rattle.std.specs.List.{filter, flat_map, before_first}
use Rattle.text_lines.specs.Kept.{is_dimacs_skipped}
use Rattle.text_lines.specs.Lines.{lines_of}
use Rattle.text_lines.specs.Words.{words_of}

-- the first of the words begins with this byte
abbrev pub begins_with : ℕ → List (List ℕ) → Bool
begins_with byte [] = false
begins_with byte (word ∷ words) = slice_index word 0 == byte

-- a line whose first byte that is no blank is `%`
abbrev pub is_end : List ℕ → Bool
is_end line = begins_with 37 (words_of line)

-- each line as its number and its words, where the first has this number
abbrev pub numbered : ℕ → List (List ℕ) → List (ℕ × List (List ℕ))
numbered number [] = []
numbered number (line ∷ lines) = (number, words_of line) ∷ numbered (number + 1) lines

-- of lines of which the first has this number, those before the end that are not skipped
abbrev pub said_from : ℕ → List (List ℕ) → List (ℕ × List (List ℕ))
said_from number lines = filter (λ line. not (is_dimacs_skipped line.1)) (numbered number (before_first is_end lines))

-- the number of the line at which such lines end: of the first whose first word begins with `%`, or else of the one after the last
abbrev pub end_from : ℕ → List (List ℕ) → ℕ
end_from number lines = number + length (before_first is_end lines)

-- the lines of a text that say something, and the line at which it ends
abbrev pub said_lines : List ℕ → List (ℕ × List (List ℕ))
said_lines text = said_from 1 (lines_of text)

abbrev pub end_line : List ℕ → ℕ
end_line text = end_from 1 (lines_of text)

-- the words of some lines, each with the number of its line
abbrev pub words_of_line : ℕ × List (List ℕ) → List (ℕ × List ℕ)
words_of_line line = map (λ word. (line.0, word)) line.1

abbrev pub placed_words : List (ℕ × List (List ℕ)) → List (ℕ × List ℕ)
placed_words lines = flat_map words_of_line lines
