-- Names of processes and locations, as they are written.
use Rattle.std.specs.Prelude.{ℕ, Bool, List, length, ◌==◌, ◌&&◌, ◌||◌, nat_le, slice_index}
use Rattle.std.specs.List.{list_all}
use Rattle.std.specs.Char.{is_ascii_alphabetic, is_ascii_digit}

-- a letter A to Z or a to z, or an underscore
abbrev pub may_begin_name : ℕ → Bool
may_begin_name byte = is_ascii_alphabetic byte || byte == 95

-- the same, or a digit
abbrev pub may_be_in_name : ℕ → Bool
may_be_in_name byte = may_begin_name byte || is_ascii_digit byte

-- 1 to 32 bytes: a letter or an underscore, and then letters, digits and underscores
abbrev pub is_name : List ℕ → Bool
is_name word = nat_le 1 (length word) && nat_le (length word) 32 && may_begin_name (slice_index word 0) && list_all may_be_in_name word
