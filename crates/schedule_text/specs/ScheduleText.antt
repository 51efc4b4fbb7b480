-- The text of a schedule.
use Rattle.std.specs.Prelude.{◌≡◌, ◌≤◌, ℕ, Bool, true, not, List, [], ◌∷◌, ◌++◌, length, map, Option, Some, None, is_none, ◌==◌, ◌&&◌, nat_le, if◌then◌else◌}
use Rattle.std.specs.List.{list_any, list_all, before_first, after_first}
use Rattle.std.specs.Fmt.{decimal}
use Rattle.text_lines.specs.FirstFault.{IsFirstFault}
use Rattle.text_lines.specs.Lines.{lines_of}
use Rattle.text_lines.specs.Words.{words_of}
use Rattle.trace_semantics.specs.Place.{place_of}
use Rattle.trace_semantics.specs.declared.operation.OpName.{OpName}
use Rattle.schedule_text.specs.declared.schedule_fault.ScheduleCause.{ScheduleCause}
use Rattle.schedule_text.specs.declared.schedule_fault.ScheduleCause.TheVariants.{BadName, BadNumber, TooMany}
use Rattle.text_lines.specs.Kept.{kept, is_skipped}
use Rattle.trace_semantics.specs.Names.{is_name}
use Rattle.std.specs.Option.{option_and_then}
use Rattle.trace_semantics.specs.declared.limits.Limits.{Limits}
use Rattle.trace_semantics.specs.Limits.{max_operations, max_place}

-- how an operation's name is written: its process, a dot and its place
abbrev pub name_word : OpName → List ℕ
name_word n = n.process ++ 46 ∷ decimal n.place

-- a name that these limits allow: a process name, and a place from 1 to the highest
abbrev pub is_op_name : Limits → OpName → Bool
is_op_name limits n = is_name n.process && nat_le 1 n.place && nat_le n.place (max_place limits)

-- the lines that are not skipped are the names, one a line, and no more than these limits allow
pub record SpellsSchedule (limits : Limits) (text : List ℕ) (names : List OpName) : Type 0 where
  pub lines : kept (lines_of text) ≡ map (λ n. name_word n ∷ []) names
  pub written : list_all (is_op_name limits) names ≡ true
  pub few : length names ≤ max_operations limits

-- the byte `.`
abbrev pub is_dot : ℕ → Bool
is_dot byte = byte == 46

-- a place as it is written, no higher than these limits allow
abbrev pub place_within : Limits → List ℕ → Option ℕ
place_within limits word = option_and_then (λ place. if nat_le place (max_place limits) then Some place else None) (place_of word)

-- what is wrong with the word of a line, after that many names
abbrev pub name_fault : Limits → ℕ → List ℕ → Option ScheduleCause
name_fault limits earlier word =
    if not (list_any is_dot word && is_name (before_first is_dot word)) then Some BadName
    else if is_none (place_within limits (after_first is_dot word)) then Some BadNumber
    else if nat_le (max_operations limits) earlier then Some TooMany
    else None

-- what is wrong with the words of a line
abbrev pub schedule_words_fault : Limits → ℕ → List (List ℕ) → Option ScheduleCause
schedule_words_fault limits earlier (word ∷ []) = name_fault limits earlier word
schedule_words_fault limits earlier words = Some BadName

-- what is wrong with a line after the lines before it
abbrev pub schedule_line_fault : Limits → List (List ℕ) → List ℕ → Option ScheduleCause
schedule_line_fault limits before line = if is_skipped (words_of line) then None else schedule_words_fault limits (length (kept before)) (words_of line)

-- the text has its first fault at this line, counted from 1
abbrev pub HasScheduleFault : Limits → List ℕ → ScheduleCause → ℕ → Type 0
HasScheduleFault limits text cause line = IsFirstFault (schedule_line_fault limits) (lines_of text) line cause
