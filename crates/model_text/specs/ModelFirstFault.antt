-- The first fault of a solver's answer.
use Rattle.std.specs.Prelude.{ℕ, ◌+◌, ℤ, pos, neg_ℤ, Bool, false, List, [], ◌∷◌, ◌++◌, map, Option, Some, None, if◌then◌else◌}
use Rattle.std.specs.List.{list_any}
use Rattle.std.specs.Option.{option_eq, option_map}
use Rattle.std.specs.Ordering.{int_eq}
use Rattle.text_lines.specs.FirstFault.{IsFirstFault}
use Rattle.text_lines.specs.Lines.{lines_of}
use Rattle.text_lines.specs.Words.{words_of}
use Rattle.model_text.specs.declared.model_fault.ModelCause.{ModelCause}
use Rattle.model_text.specs.declared.model_fault.ModelCause.TheVariants.{SaysUnsatisfiable, BadLine, BadNumber, Clash, Unended}
use Rattle.model_text.specs.ModelText.{Said, Word, Unsatisfiable, Unknown, End, said, model_number}

-- each of these at this line
abbrev pub at_line : ℕ → List Said → List (ℕ × Said)
at_line line things = map (λ thing. (line, thing)) things

-- what lines say, each thing with its line, where the first line has this number; and the end, at the line after the last
abbrev pub said_from : ℕ → List (List ℕ) → List (ℕ × Said)
said_from line [] = (line, End) ∷ []
said_from line (first ∷ rest) = at_line line (said (words_of first)) ++ said_from (line + 1) rest

-- it is a word, and writes this number
abbrev pub writes : ℤ → ℕ × Said → Bool
writes z (line, Word word) = option_eq int_eq (Some z) (model_number word)
writes z (line, thing) = false

-- what is wrong with a number after what was said before
abbrev pub number_fault : List (ℕ × Said) → Option ℤ → Option ModelCause
number_fault before None = Some BadNumber
number_fault before (Some z) = if list_any (writes (neg_ℤ z)) before then Some Clash else None

-- what is wrong with a thing after what was said before
abbrev pub said_fault : List (ℕ × Said) → Said → Option ModelCause
said_fault before (Word word) = if list_any (writes (pos 0)) before then Some BadLine else number_fault before (model_number word)
said_fault before Unsatisfiable = Some SaysUnsatisfiable
said_fault before Unknown = Some BadLine
said_fault before End = if list_any (writes (pos 0)) before then None else Some Unended

-- the same, with its line
abbrev pub model_fault : List (ℕ × Said) → ℕ × Said → Option (ModelCause × ℕ)
model_fault before (line, thing) = option_map (λ cause. (cause, line)) (said_fault before thing)

-- the first fault of the text is this, at this line, counted from 1
abbrev pub HasModelFault : List ℕ → ModelCause → ℕ → Type 0
HasModelFault text cause line = (place : ℕ) × IsFirstFault model_fault (said_from 1 (lines_of text)) place (cause, line)
