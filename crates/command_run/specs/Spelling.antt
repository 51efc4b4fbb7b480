-- The words of a command line as `clap` reads them: `--explain=WHEN` is said by its two flags.
use Rattle.std.specs.Prelude.{if◌then◌else◌, ℕ, List, [], ◌∷◌, Option, Some, None, codes}
use Rattle.std.specs.Str.{bytes_eq}

-- --explain=always is --explain, --explain=never is --no-explain, and --explain=auto is neither
abbrev pub spelled : List ℕ → Option (List ℕ)
spelled word =
    if bytes_eq word (codes "--explain=always") then Some (codes "--explain") else
    (if bytes_eq word (codes "--explain=never") then Some (codes "--no-explain") else
    (if bytes_eq word (codes "--explain=auto") then None else Some word))

-- a word, if there is one, and then the others
abbrev pub preceded : Option (List ℕ) → List (List ℕ) → List (List ℕ)
preceded None later = later
preceded (Some word) later = word ∷ later

-- each word as it is spelled, up to the word behind which no option stands
abbrev pub spelled_out : List (List ℕ) → List (List ℕ)
spelled_out [] = []
spelled_out (word ∷ later) = if bytes_eq word (codes "--") then word ∷ later else preceded (spelled word) (spelled_out later)
