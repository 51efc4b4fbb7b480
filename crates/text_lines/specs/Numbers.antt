-- The numbers of the texts, by their digits.
use Rattle.std.specs.Prelude.{ℕ, ℤ, pos, neg_ℤ, Bool, not, List, ◌==◌, ◌&&◌, ◌||◌, Option, Some, None, nat_le, drop, slice_index, if◌then◌else◌}
use Rattle.std.specs.List.{list_all}
use Rattle.std.specs.Char.{is_ascii_digit}
use Rattle.std.specs.Option.{option_and_then}
use Rattle.std.specs.Str.Parse.{digits_value}
use Rattle.text_lines.specs.Words.{is_empty}

-- one digit or more, and no other byte
abbrev pub is_digits : List ℕ → Bool
is_digits word = not (is_empty word) && list_all is_ascii_digit word

-- the value of a word of digits alone, leading zeros allowed, where it is at most this
abbrev pub digits_up_to : ℕ → List ℕ → Option ℕ
digits_up_to most word = option_and_then (λ n. if nat_le n most then Some n else None) (if is_digits word then Some (digits_value 10 word) else None)

-- `0`, or a digit from 1 to 9 followed by digits
abbrev pub is_plain : List ℕ → Bool
is_plain word = is_digits word && (is_empty (drop 1 word) || not (slice_index word 0 == 48))

-- the value of a plain number, which `0` or a digit from 1 to 9 begins
abbrev pub plain_number : List ℕ → Option ℕ
plain_number word = if is_plain word then Some (digits_value 10 word) else None

-- the value of a plain number, where it is at most this
abbrev pub plain_number_up_to : ℕ → List ℕ → Option ℕ
plain_number_up_to most word = option_and_then (λ n. if nat_le n most then Some n else None) (plain_number word)

-- whether the word begins with a minus
abbrev pub has_minus : List ℕ → Bool
has_minus word = slice_index word 0 == 45

-- the digits of a solver number
abbrev pub digits_after_sign : List ℕ → List ℕ
digits_after_sign word = if has_minus word then drop 1 word else word

-- An optional minus and one digit or more, leading zeros allowed. A minus before a value of zero is no number.
abbrev pub is_solver_number : List ℕ → Bool
is_solver_number word = is_digits (digits_after_sign word) && not (has_minus word && (digits_value 10 (digits_after_sign word) == 0))

-- the value of a solver number
abbrev pub solver_number : List ℕ → Option ℤ
solver_number word = if is_solver_number word
    then Some (if has_minus word then neg_ℤ (pos (digits_value 10 (drop 1 word))) else pos (digits_value 10 word))
    else None
