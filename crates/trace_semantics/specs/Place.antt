-- The place of an operation in its process, as it is written.
use Rattle.std.specs.Prelude.{ℕ, List, Option, Some, None, nat_le, if◌then◌else◌}
use Rattle.std.specs.Option.{option_and_then}
use Rattle.text_lines.specs.Numbers.{plain_number_up_to}

-- a place as it is written, from 1 to 4294967295
abbrev pub place_of : List ℕ → Option ℕ
place_of word = option_and_then (λ n. if nat_le 1 n then Some n else None) (plain_number_up_to 4294967295 word)
