-- What is wrong with the text of a derivation. Words are read from left to right.
use Rattle.std.specs.Prelude.{ℕ, ℤ, nat_abs, Bool, false, not, List, [], ◌∷◌, drop, Option, Some, None, is_some, ◌==◌, ◌&&◌, nat_le, slice_index_or, codes, if◌then◌else◌}
use Rattle.std.specs.Int.{is_negative}
use Rattle.std.specs.Option.{option_or}
use Rattle.std.specs.Str.{bytes_eq}
use Rattle.dimacs.specs.Literal.{most_variable}
use Rattle.text_lines.specs.FirstFault.{IsFirstFault}
use Rattle.text_lines.specs.Kept.{is_dimacs_skipped}
use Rattle.text_lines.specs.Lines.{lines_of}
use Rattle.text_lines.specs.Numbers.{solver_number}
use Rattle.text_lines.specs.Words.{words_of}
use Rattle.lrat_check.specs.LratText.{most_id}
use Rattle.lrat_check.specs.declared.lrat_fault.LratCause.{LratCause}
use Rattle.lrat_check.specs.declared.lrat_fault.LratCause.TheVariants.{BadLine, BadNumber, Unended}

-- what is wrong with a word that has to be the number of a literal or 0
abbrev pub literal_fault : Option ℤ → Option LratCause
literal_fault None = Some BadNumber
literal_fault (Some z) = if nat_le (nat_abs z) most_variable then None else Some BadNumber

-- what is wrong with a word that has to be a hint or 0: an id or the negative of one
abbrev pub hint_fault : Option ℤ → Option LratCause
hint_fault None = Some BadNumber
hint_fault (Some z) = if nat_le (nat_abs z) most_id then None else Some BadNumber

-- what is wrong with a word that has to be an id or 0
abbrev pub id_fault : Option ℤ → Option LratCause
id_fault None = Some BadNumber
id_fault (Some z) = if is_negative z then Some BadNumber else if nat_le (nat_abs z) most_id then None else Some BadNumber

-- what is wrong with a word that has to be a number from this to the largest id
abbrev pub first_fault : ℕ → Option ℤ → Option LratCause
first_fault least None = Some BadNumber
first_fault least (Some z) = if not (is_negative z) && (nat_le least (nat_abs z) && nat_le (nat_abs z) most_id) then None else Some BadNumber

-- whether the number is 0
abbrev pub is_zero : Option ℤ → Bool
is_zero None = false
is_zero (Some z) = nat_abs z == 0

-- What is wrong with words that begin with a list of numbers and its 0, where `fault` says what is wrong with a number of
-- the list and `next` what is wrong with the words after its 0.
abbrev pub list_fault : (Option ℤ → Option LratCause) → (List (List ℕ) → Option LratCause) → List (List ℕ) → Option LratCause
list_fault fault next [] = Some Unended
list_fault fault next (word ∷ words) =
    option_or (fault (solver_number word)) (if is_zero (solver_number word) then next words else list_fault fault next words)

-- what is wrong with words after the last 0, where none should be
abbrev pub behind_fault : List (List ℕ) → Option LratCause
behind_fault [] = None
behind_fault (word ∷ words) = if is_some (solver_number word) then Some BadLine else Some BadNumber

-- what is wrong with the words of an addition after its id, and of a deletion after its `d`
abbrev pub addition_fault : List (List ℕ) → Option LratCause
addition_fault words = list_fault literal_fault (list_fault hint_fault behind_fault) words

abbrev pub deletion_fault : List (List ℕ) → Option LratCause
deletion_fault words = list_fault id_fault behind_fault words

-- whether these words, after the first number, are of a deletion
abbrev pub is_deletion : List (List ℕ) → Bool
is_deletion words = bytes_eq (slice_index_or words 0 []) (codes "d")

-- what is wrong with the words of a line
abbrev pub words_fault : List (List ℕ) → Option LratCause
words_fault [] = None
words_fault (number ∷ words) = if is_deletion words
    then option_or (first_fault 0 (solver_number number)) (deletion_fault (drop 1 words))
    else option_or (first_fault 1 (solver_number number)) (addition_fault words)

-- what is wrong with a line, whatever stands before it
abbrev pub line_fault : List (List ℕ) → List ℕ → Option LratCause
line_fault before line = if is_dimacs_skipped (words_of line) then None else words_fault (words_of line)

-- the text has its first fault at this line, counted from 1
abbrev pub HasLratFault : List ℕ → LratCause → ℕ → Type 0
HasLratFault text cause line = IsFirstFault line_fault (lines_of text) line cause
