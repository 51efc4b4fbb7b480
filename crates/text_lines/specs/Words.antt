-- The words of a line.
use Rattle.std.specs.Prelude.{ℕ, Bool, not, List, length, ◌==◌, ◌||◌}
use Rattle.std.specs.List.{slice_split, filter}

-- space, tab and carriage return
abbrev pub is_blank : ℕ → Bool
is_blank byte = byte == 32 || byte == 9 || byte == 13

abbrev pub is_empty : {X : Type 0} → List X → Bool
is_empty xs = length xs == 0

-- the longest runs of bytes that are no blanks, in order
abbrev pub words_of : List ℕ → List (List ℕ)
words_of line = filter (λ word. not (is_empty word)) (slice_split is_blank line)
