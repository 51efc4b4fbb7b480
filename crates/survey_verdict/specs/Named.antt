-- The operations that the lines of a certificate of reasons name.
use Rattle.std.specs.Prelude.{ℕ, Bool, false, not, List, [], ◌∷◌, ◌&&◌, ◌||◌, codes}
use Rattle.std.specs.List.{filter, list_any}
use Rattle.std.specs.Str.{bytes_eq}
use Rattle.schedule_text.specs.ScheduleText.{name_word}
use Rattle.text_lines.specs.Kept.{is_skipped}
use Rattle.text_lines.specs.Lines.{lines_of}
use Rattle.text_lines.specs.Words.{words_of}
use Rattle.trace_semantics.specs.declared.operation.OpName.{OpName}
use Rattle.trace_semantics.specs.Trace.{TraceValue, operation_names}

-- whether the words are of the line behind which the derivation comes
abbrev pub is_mark : List (List ℕ) → Bool
is_mark [] = false
is_mark (word ∷ words) = bytes_eq word (codes "p")

-- whether the line is no comment and has the word
abbrev pub has_word : List ℕ → List ℕ → Bool
has_word word line = not (is_skipped (words_of line)) && list_any (λ other. bytes_eq other word) (words_of line)

-- whether one of the lines before the derivation has the word
abbrev pub mentions : List ℕ → List (List ℕ) → Bool
mentions word [] = false
mentions word (line ∷ lines) = not (is_mark (words_of line)) && (has_word word line || mentions word lines)

-- those of the trace's operations that the lines of the text name, in the order of the trace
abbrev pub named_in : TraceValue → List ℕ → List OpName
named_in t text = filter (λ n. mentions (name_word n) (lines_of text)) (operation_names t)
