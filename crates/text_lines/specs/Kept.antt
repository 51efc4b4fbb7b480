-- The lines of a text that say something, as their words.
use Rattle.std.specs.Prelude.{ℕ, Bool, true, not, List, [], ◌∷◌, map, ◌==◌, slice_index}
use Rattle.std.specs.List.{filter}
use Rattle.text_lines.specs.Words.{words_of}

-- a line without words, or a comment, whose first word begins with this byte
abbrev pub is_skipped_by : ℕ → List (List ℕ) → Bool
is_skipped_by mark [] = true
is_skipped_by mark (word ∷ words) = slice_index word 0 == mark

-- the words of each line that is not skipped, by what is
abbrev pub kept_by : (List (List ℕ) → Bool) → List (List ℕ) → List (List (List ℕ))
kept_by skips lines = filter (λ words. not (skips words)) (map words_of lines)

-- in traces, schedules and names of a part, where a comment begins with `#`
abbrev pub is_skipped : List (List ℕ) → Bool
is_skipped words = is_skipped_by 35 words

abbrev pub kept : List (List ℕ) → List (List (List ℕ))
kept lines = kept_by is_skipped lines

-- in formulas, answers of solvers, derivations and certificates, where a comment begins with `c`
abbrev pub is_dimacs_skipped : List (List ℕ) → Bool
is_dimacs_skipped words = is_skipped_by 99 words

abbrev pub dimacs_kept : List (List ℕ) → List (List (List ℕ))
dimacs_kept lines = kept_by is_dimacs_skipped lines
