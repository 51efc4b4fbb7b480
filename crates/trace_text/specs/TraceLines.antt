-- Lines of a trace's text, as the writer makes them.
use Rattle.std.specs.Prelude.{ℕ, List, [], ◌∷◌, ◌++◌}
use Rattle.std.specs.Fmt.{decimal}
use Rattle.std.specs.List.{flat_map}

-- a space and the word
abbrev pub spaced : List ℕ → List ℕ
spaced word = 32 ∷ word

-- the words of a line with a key, a location and a value
abbrev pub entry_line : List ℕ → List ℕ × ℕ → List (List ℕ)
entry_line key entry = key ∷ entry.0 ∷ decimal entry.1 ∷ []

-- words in a row, a space between each two
abbrev pub joined : List (List ℕ) → List ℕ
joined [] = []
joined (word ∷ words) = word ++ flat_map spaced words
