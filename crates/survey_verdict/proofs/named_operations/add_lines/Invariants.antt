use Rattle.std.proofs.Common.{◌≡◌, ℕ, List, ◌||◌, length}
use Rattle.survey_verdict.specs.Named.{mentions}
use Rattle.survey_verdict.specs.WordSet.{has}
use Rattle.text_lines.specs.Lines.{lines_of}
use Rattle.survey_verdict.proofs.named_operations.add_lines.Given as goal

-- the words of the lines that are left and those of the set are the words of all lines and those that were there
abbrev pub invariant-loop-line : goal.invariant-loop-line
invariant-loop-line l =
    (word : List ℕ) → (mentions word (lines_of l.rest) || has l.words word) ≡ (mentions word (lines_of l.text) || has l.initial.words word)

abbrev pub decreases-loop-line : goal.decreases-loop-line
decreases-loop-line l = length l.rest
