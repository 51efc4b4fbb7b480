-- The lines of a schedule's text and the names that they spell.
use Rattle.std.proofs.Common.{◌≡◌, ℕ, ◌+◌, ◌<◌, ◌≤◌, List, [], ◌∷◌, ◌++◌, length, map, true, false, refl, ap, sym, ◌∙◌, arith, append-nil}
use Rattle.std.specs.Prelude.{None}
use Rattle.std.specs.List.{list_all}
use Rattle.std.specs.Fmt.{decimal}
use Rattle.std.proofs.lemmas.Bool.{and_from, cond-true, cond-false}
use Rattle.std.proofs.lemmas.List.{map_push, length-map, length_push}
use Rattle.std.proofs.lemmas.List.Folds.{list_all-append}
use Rattle.text_lines.specs.FirstFault.{IsFaultless}
use Rattle.text_lines.specs.Lines.{lines_of}
use Rattle.text_lines.specs.Words.{words_of}
use Rattle.text_lines.proofs.FaultLemmas.{faultless_nil, faultless_push}
use Rattle.text_lines.proofs.Cutting.KeptLemmas.{kept_append, kept_skipped, kept_more}
use Rattle.text_lines.proofs.ListLemmas.{next_parts}
use Rattle.trace_semantics.specs.declared.operation.OpName.{OpName}
use Rattle.text_lines.specs.Kept.{kept, is_skipped}
use Rattle.schedule_text.specs.ScheduleLine.{IsSkippedLine, IsNameLine, line_fault}
use Rattle.schedule_text.specs.ScheduleText.{SpellsSchedule, name_word, is_op_name, schedule_words_fault, schedule_line_fault}
use Rattle.schedule_text.proofs.OpNameLemmas.{writable, name_clear}
use Rattle.trace_semantics.proofs.NameByteLemmas.{begins_no_comment}
use Rattle.trace_semantics.specs.declared.limits.Limits.{Limits}
use Rattle.trace_semantics.specs.Limits.{max_operations}

-- the line of each name
abbrev pub name_lines : List OpName → List (List (List ℕ))
name_lines names = map (λ n. name_word n ∷ []) names

-- the lines are these names, and none has a fault
pub record AreNames (limits : Limits) (lines : List (List ℕ)) (names : List OpName) : Type 0 where
  pub spelled : kept lines ≡ name_lines names
  pub written : list_all (is_op_name limits) names ≡ true
  pub few : length names ≤ max_operations limits
  pub faultless : IsFaultless (schedule_line_fault limits) lines

pub no_lines : (limits : Limits) → AreNames limits [] []
no_lines limits = record { spelled = refl; written = refl; few = omega arith; faultless = faultless_nil (schedule_line_fault limits) }

-- as many lines as names
pub counted : (limits : Limits) (lines : List (List ℕ)) (names : List OpName) → AreNames limits lines names → length (kept lines) ≡ length names
counted limits lines names h = ap length h.spelled ∙ length-map names (λ n. name_word n ∷ [])

-- what is wrong with the next line
pub fault_here : (limits : Limits) (lines : List (List ℕ)) (names : List OpName) (line : List ℕ) → AreNames limits lines names → schedule_line_fault limits lines line ≡ line_fault limits (length names) line
fault_here limits lines names line h = ap (λ k. line_fault limits k line) (counted limits lines names h)

-- one more line that is skipped
pub push_skipped : (limits : Limits) (lines : List (List ℕ)) (names : List OpName) (line : List ℕ) → AreNames limits lines names → IsSkippedLine line → AreNames limits (lines ++ line ∷ []) names
push_skipped limits lines names line h skipped =
    record {
      spelled = kept_append is_skipped lines (line ∷ []) ∙ ap (λ l. kept lines ++ l) (kept_skipped is_skipped line [] skipped) ∙ append-nil (kept lines) ∙ h.spelled;
      written = h.written;
      few = h.few;
      faultless = faultless_push (schedule_line_fault limits) lines line h.faultless (cond-true (is_skipped (words_of line)) None (schedule_words_fault limits (length (kept lines)) (words_of line)) skipped);
    }

-- the line of a name is not skipped, and has no fault
pub name_kept : (limits : Limits) (earlier : ℕ) (line : List ℕ) (n : OpName) → IsNameLine limits earlier line n → is_skipped (words_of line) ≡ false
name_kept limits earlier line n h = ap is_skipped h.word ∙ begins_no_comment n.process (46 ∷ decimal n.place) (writable limits n h.written).name

pub name_line_clear : (limits : Limits) (earlier : ℕ) (line : List ℕ) (n : OpName) → IsNameLine limits earlier line n → line_fault limits earlier line ≡ None
name_line_clear limits earlier line n h =
    cond-false (is_skipped (words_of line)) None (schedule_words_fault limits earlier (words_of line)) (name_kept limits earlier line n h)
    ∙ ap (schedule_words_fault limits earlier) h.word ∙ name_clear limits earlier n h.written h.room

-- one more line that is a name
pub push_name : (limits : Limits) (lines : List (List ℕ)) (names : List OpName) (line : List ℕ) (n : OpName) → AreNames limits lines names → IsNameLine limits (length names) line n → AreNames limits (lines ++ line ∷ []) (names ++ n ∷ [])
push_name limits lines names line n h new =
    record {
      spelled = kept_append is_skipped lines (line ∷ []) ∙ (λ i. h.spelled i ++ (kept_more is_skipped line [] (name_kept limits (length names) line n new) ∙ ap (λ ws. ws ∷ []) new.word) i) ∙ sym (map_push (λ m. name_word m ∷ []) names n);
      written = list_all-append (is_op_name limits) names (n ∷ []) ∙ and_from _ _ h.written (and_from _ true new.written refl);
      few = omega (arith, new.room, length_push names n);
      faultless = faultless_push (schedule_line_fault limits) lines line h.faultless (fault_here limits lines names line h ∙ name_line_clear limits (length names) line n new);
    }

-- what a reader has read of the text
pub record IsReadSoFar (limits : Limits) (text : List ℕ) (number : ℕ) (rest : List ℕ) (names : List OpName) : Type 0 where
  pub done : List (List ℕ)
  pub parts : lines_of text ≡ done ++ lines_of rest
  pub counted : number ≡ length done
  pub spelled : AreNames limits done names
  pub behind : number + length rest ≤ length text

pub turn_skipped : (limits : Limits) (text : List ℕ) (number : ℕ) (rest : List ℕ) (names : List OpName) (line after : List ℕ) → IsReadSoFar limits text number rest names →
    lines_of rest ≡ line ∷ lines_of after → length after < length rest → IsSkippedLine line → IsReadSoFar limits text (number + 1) after names
turn_skipped limits text number rest names line after h cut shorter skipped =
    record {
      done = h.done ++ line ∷ [];
      parts = next_parts (lines_of text) h.done line (lines_of rest) (lines_of after) h.parts cut;
      counted = omega (arith, h.counted, length_push h.done line);
      spelled = push_skipped limits h.done names line h.spelled skipped;
      behind = omega (arith, h.behind, shorter);
    }

pub turn_name : (limits : Limits) (text : List ℕ) (number : ℕ) (rest : List ℕ) (names : List OpName) (line after : List ℕ) (n : OpName) → IsReadSoFar limits text number rest names →
    lines_of rest ≡ line ∷ lines_of after → length after < length rest → IsNameLine limits (length names) line n → IsReadSoFar limits text (number + 1) after (names ++ n ∷ [])
turn_name limits text number rest names line after n h cut shorter new =
    record {
      done = h.done ++ line ∷ [];
      parts = next_parts (lines_of text) h.done line (lines_of rest) (lines_of after) h.parts cut;
      counted = omega (arith, h.counted, length_push h.done line);
      spelled = push_name limits h.done names line n h.spelled new;
      behind = omega (arith, h.behind, shorter);
    }

-- names of all lines are the schedule
pub spelled_by : (limits : Limits) (text : List ℕ) (names : List OpName) → AreNames limits (lines_of text) names → SpellsSchedule limits text names
spelled_by limits text names h = record { lines = h.spelled; written = h.written; few = h.few }
