use Rattle.std.proofs.Common.{◌≡◌, ℕ, List, ◌||◌, length}
use Rattle.std.specs.List.{list_any}
use Rattle.std.specs.Str.{bytes_eq}
use Rattle.survey_verdict.specs.WordSet.{has}
use Rattle.text_lines.specs.Words.{words_of}
use Rattle.survey_verdict.proofs.named_operations.add_words.Given as goal

-- the words that are left and those of the set are the words of the line and those that were there
abbrev pub invariant-loop-word : goal.invariant-loop-word
invariant-loop-word l =
    (word : List ℕ) → (list_any (λ other. bytes_eq other word) (words_of l.rest) || has l.words word) ≡ (list_any (λ other. bytes_eq other word) (words_of l.line) || has l.initial.words word)

abbrev pub decreases-loop-word : goal.decreases-loop-word
decreases-loop-word l = length l.rest
