-- On which line of a text a name stands, and what is wrong with the names of a part.
use Rattle.std.specs.Prelude.{◌≡◌, ◌+◌, ℕ, false, List, ◌∷◌, ◌++◌, length}
use Rattle.text_lines.specs.FirstFault.{IsFirstFault}
use Rattle.text_lines.specs.Kept.{kept, is_skipped}
use Rattle.text_lines.specs.Lines.{lines_of}
use Rattle.text_lines.specs.Words.{words_of}
use Rattle.trace_semantics.specs.declared.operation.OpName.{OpName}
use Rattle.trace_semantics.specs.Trace.{TraceValue}
use Rattle.trace_part.specs.Choice.{fault_of_choice}
use Rattle.trace_part.specs.declared.part_fault.PartCause.{PartCause}

-- the line of this number is not skipped, and has this place among those that are not skipped, both counted from 1
pub record StandsAt (text : List ℕ) (place line : ℕ) : Type 0 where
  pub before : List (List ℕ)
  pub here : List ℕ
  pub after : List (List ℕ)
  pub parts : lines_of text ≡ before ++ here ∷ after
  pub counted : line ≡ length before + 1
  pub said : is_skipped (words_of here) ≡ false
  pub place_is : place ≡ length (kept before) + 1

-- the first of the names that make up no part of the trace has this fault, and stands on this line of their text
pub record HasChoiceFault (t : TraceValue) (names : List OpName) (text : List ℕ) (cause : PartCause) (line : ℕ) : Type 0 where
  pub place : ℕ
  pub faulty : IsFirstFault (fault_of_choice t) names place cause
  pub stands : StandsAt text place line
