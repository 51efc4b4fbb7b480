-- Numbers at the front of a line that are short enough to be read in one pass.
use Rattle.std.specs.Prelude.{◌≡◌, ◌≤◌, ◌<◌, ℕ, ℤ, Bool, true, List, ◌∷◌, length, take, Option, Some, slice_index_or}
use Rattle.std.specs.Char.{is_ascii_digit}
use Rattle.std.specs.List.{list_all}
use Rattle.std.specs.Str.Parse.{digits_value}
use Rattle.text_lines.specs.Numbers.{solver_number}
use Rattle.text_lines.specs.Words.{words_of, is_blank}
use Rattle.lrat_check.specs.LratRead.{BeginsWith}
use Rattle.lrat_check.specs.declared.lrat_fault.LratCause.{LratCause}

-- the text begins with this many digits, and if they are 18 at most, this is their value
pub record AreLeadingDigits (text : List ℕ) (value count : ℕ) : Type 0 where
  pub inside : count ≤ length text
  pub digits : list_all is_ascii_digit (take count text) ≡ true
  pub value_is : count ≤ 18 → value ≡ digits_value 10 (take count text)

-- the text begins with this many digits, 18 at most, of this value, and a blank or the end follows
pub record IsShortNumber (text : List ℕ) (value count : ℕ) : Type 0 where
  pub few : count ≤ 18
  pub inside : count ≤ length text
  pub digits : list_all is_ascii_digit (take count text) ≡ true
  pub value_is : value ≡ digits_value 10 (take count text)
  pub ended : is_blank (slice_index_or text count 32) ≡ true

-- the first word of the line is this number, and the other words are those of the rest
pub record IsFirstNumber (line : List ℕ) (number : ℤ) (rest : List ℕ) : Type 0 where
  pub word : List ℕ
  pub words : words_of line ≡ word ∷ words_of rest
  pub says : solver_number word ≡ Some number
  pub shorter : length rest < length line

-- words that begin with the numbers before, and then are those of the line, begin with these numbers, and then are those of the rest
pub record ReadsOn (fault : Option ℤ → Option LratCause) (passes : ℤ → Bool) (before : List ℤ) (line : List ℕ) (numbers : List ℤ) (rest : List ℕ) : Type 0 where
  pub reads : (words : List (List ℕ)) → BeginsWith fault passes words before (words_of line) → BeginsWith fault passes words numbers (words_of rest)
  pub shorter : length rest ≤ length line
