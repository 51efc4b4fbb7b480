-- What one line of a schedule's text says.
use Rattle.std.specs.Prelude.{◌≡◌, ◌<◌, ℕ, true, List, [], ◌∷◌, Option, Some, None, if◌then◌else◌}
use Rattle.text_lines.specs.Words.{words_of}
use Rattle.trace_semantics.specs.declared.operation.OpName.{OpName}
use Rattle.schedule_text.specs.declared.schedule_fault.ScheduleCause.{ScheduleCause}
use Rattle.text_lines.specs.Fault.{IsRefusalAt}
use Rattle.text_lines.specs.declared.fault.PlacedFault.{PlacedFault}
use Rattle.text_lines.specs.Kept.{is_skipped}
use Rattle.schedule_text.specs.ScheduleText.{name_word, is_op_name, schedule_words_fault}
use Rattle.trace_semantics.specs.declared.limits.Limits.{Limits}
use Rattle.trace_semantics.specs.Limits.{max_operations}

-- the line says nothing
abbrev pub IsSkippedLine : List ℕ → Type 0
IsSkippedLine line = is_skipped (words_of line) ≡ true

-- the line is this name, and after that many names there is room for it
pub record IsNameLine (limits : Limits) (earlier : ℕ) (line : List ℕ) (n : OpName) : Type 0 where
  pub word : words_of line ≡ name_word n ∷ []
  pub written : is_op_name limits n ≡ true
  pub room : earlier < max_operations limits

-- what is wrong with a line after that many names
abbrev pub line_fault : Limits → ℕ → List ℕ → Option ScheduleCause
line_fault limits earlier line = if is_skipped (words_of line) then None else schedule_words_fault limits earlier (words_of line)

-- a refusal of the line of this number says what is wrong with it, or that there was no memory
abbrev pub IsLineRefusal : Limits → ℕ → List ℕ → ℕ → PlacedFault ScheduleCause → Type 0
IsLineRefusal limits earlier line number fault = IsRefusalAt (λ cause. line_fault limits earlier line ≡ Some cause) number fault
