-- A schedule's text spells one schedule or has one first fault.
use Rattle.std.proofs.Common.{◌≡◌, ◌⊎◌, ℕ, ◌+◌, List, [], ◌∷◌, ◌++◌, length, true, false, refl, ap, sym, ◌∙◌, subst, arith, suc, inl, inr, append_assoc, append-nil, length-append}
use Rattle.std.specs.Prelude.{None}
use Rattle.std.specs.List.{list_all}
use Rattle.std.proofs.lemmas.Bool.{and_parts, cases_Bool, cond-true, cond-false}
use Rattle.std.proofs.lemmas.Option.{none-some}
use Rattle.std.proofs.lemmas.List.Folds.{list_all-append}
use Rattle.text_lines.specs.FirstFault.{IsFaultless}
use Rattle.text_lines.specs.Lines.{lines_of}
use Rattle.text_lines.specs.Words.{words_of}
use Rattle.text_lines.proofs.FaultLemmas.{none_is_some, one_first, either}
use Rattle.trace_semantics.specs.declared.operation.OpName.{OpName}
use Rattle.schedule_text.specs.declared.schedule_fault.ScheduleCause.{ScheduleCause}
use Rattle.schedule_text.specs.declared.schedule_fault.ScheduleCause.TheVariants.{BadName}
use Rattle.text_lines.specs.Kept.{kept, is_skipped}
use Rattle.schedule_text.specs.ScheduleLine.{IsSkippedLine, IsNameLine}
use Rattle.schedule_text.specs.ScheduleText.{SpellsSchedule, HasScheduleFault, name_word, is_op_name, schedule_words_fault, schedule_line_fault}
use Rattle.schedule_text.proofs.OpNameLemmas.{same_name, some_name}
use Rattle.schedule_text.proofs.ScheduleLemmas.{AreNames, name_lines, no_lines, fault_here, push_skipped, push_name, name_line_clear, spelled_by}
use Rattle.text_lines.proofs.Cutting.KeptLemmas.{kept_append, kept_more}
use Rattle.trace_semantics.specs.declared.limits.Limits.{Limits}

-- the same lines, the same names
same_names : (limits : Limits) (m n : List OpName) → list_all (is_op_name limits) m ≡ true → list_all (is_op_name limits) n ≡ true → name_lines m ≡ name_lines n → m ≡ n
same_names limits [] [] h k e = refl
same_names limits [] (y ∷ n) h k e = absurd (cc)
same_names limits (x ∷ m) [] h k e = absurd (cc)
same_names limits (x ∷ m) (y ∷ n) h k e =
    let word : name_word x ≡ name_word y = cc in
    let rest : name_lines m ≡ name_lines n = cc in
    let first = and_parts (is_op_name limits x) (list_all (is_op_name limits) m) h in
    let second = and_parts (is_op_name limits y) (list_all (is_op_name limits) n) k in
    let head = same_name limits x y first.0 second.0 word in
    let tail = same_names limits m n first.1 second.1 rest in
    (λ i. head i ∷ tail i)

pub one_spelled : (limits : Limits) (text : List ℕ) (m n : List OpName) → SpellsSchedule limits text m → SpellsSchedule limits text n → m ≡ n
one_spelled limits text m n h k = same_names limits m n h.written k.written (sym h.lines ∙ k.lines)

pub one_refused : (limits : Limits) (text : List ℕ) (c d : ScheduleCause) (p q : ℕ) → HasScheduleFault limits text c p → HasScheduleFault limits text d q → (c ≡ d) × (p ≡ q)
one_refused limits text c d p q h k = let same = one_first (schedule_line_fault limits) (lines_of text) p q c d h k in (same.1, same.0)

-- the name of a line, among the names
record Splits (names : List OpName) (front : List (List (List ℕ))) (line : List (List ℕ)) : Type 0 where
  earlier : List OpName
  name : OpName
  later : List OpName
  parts : names ≡ earlier ++ name ∷ later
  counted : length front ≡ length earlier
  word : line ≡ name_word name ∷ []

split_more : (n : OpName) (names : List OpName) (x : List (List ℕ)) (front : List (List (List ℕ))) (line : List (List ℕ)) → Splits names front line → Splits (n ∷ names) (x ∷ front) line
split_more n names x front line s = record { earlier = n ∷ s.earlier; name = s.name; later = s.later; parts = ap (λ l. n ∷ l) s.parts; counted = ap suc s.counted; word = s.word }

split : (names : List OpName) (front back : List (List (List ℕ))) (line : List (List ℕ)) → name_lines names ≡ front ++ line ∷ back → Splits names front line
split [] [] back line e = absurd (cc)
split [] (x ∷ front) back line e = absurd (cc)
split (n ∷ names) [] back line e = record { earlier = []; name = n; later = names; parts = refl; counted = refl; word = cc }
split (n ∷ names) (x ∷ front) back line e = split_more n names x front line (split names front back line (cc))

one_written : (limits : Limits) (names earlier : List OpName) (n : OpName) (later : List OpName) → names ≡ earlier ++ n ∷ later → list_all (is_op_name limits) names ≡ true → is_op_name limits n ≡ true
one_written limits names earlier n later e h =
    let parts = and_parts (list_all (is_op_name limits) earlier) (list_all (is_op_name limits) (n ∷ later)) (sym (list_all-append (is_op_name limits) earlier (n ∷ later)) ∙ ap (list_all (is_op_name limits)) (sym e) ∙ h) in
    (and_parts (is_op_name limits n) (list_all (is_op_name limits) later) parts.1).0

-- no line of a schedule has a fault
pub spelled_clear : (limits : Limits) (text : List ℕ) (names : List OpName) → SpellsSchedule limits text names → IsFaultless (schedule_line_fault limits) (lines_of text)
spelled_clear limits text names h before line after e =
    elim (cases_Bool (is_skipped (words_of line))) [
      | inl skipped ↦ cond-true (is_skipped (words_of line)) None (schedule_words_fault limits (length (kept before)) (words_of line)) skipped
      | inr said ↦ (
          let all : name_lines names ≡ kept before ++ words_of line ∷ kept after = sym h.lines ∙ ap kept e ∙ kept_append is_skipped before (line ∷ after) ∙ ap (λ l. kept before ++ l) (kept_more is_skipped line after said) in
          let s = split names (kept before) (kept after) (words_of line) all in
          let count : length names ≡ length s.earlier + length (s.name ∷ s.later) = ap length s.parts ∙ length-append s.earlier (s.name ∷ s.later) in
          name_line_clear limits (length (kept before)) line s.name (record { word = s.word; written = one_written limits names s.earlier s.name s.later s.parts h.written; room = omega (arith, h.few, count, s.counted) }))
    ]

pub never_both : (limits : Limits) (text : List ℕ) (names : List OpName) (cause : ScheduleCause) (line : ℕ) → SpellsSchedule limits text names → HasScheduleFault limits text cause line → ⊥
never_both limits text names cause line h fault = none_is_some cause (sym (spelled_clear limits text names h fault.before fault.item fault.after fault.parts) ∙ fault.faulty)

-- a line without a fault is skipped or is a name
words_read : (limits : Limits) (earlier : ℕ) (line : List ℕ) (words : List (List ℕ)) → words_of line ≡ words → is_skipped words ≡ false → schedule_words_fault limits earlier words ≡ None → (n : OpName) × IsNameLine limits earlier line n
words_read limits earlier line [] e said clear = absurd (none-some BadName (sym clear))
words_read limits earlier line (word ∷ []) e said clear =
    let read = some_name limits earlier word clear in
    (read.0, record { word = e ∙ ap (λ w. w ∷ []) read.1.reads; written = read.1.written; room = read.1.room })
words_read limits earlier line (word ∷ (other ∷ words)) e said clear = absurd (none-some BadName (sym clear))

line_read : (limits : Limits) (lines : List (List ℕ)) (names : List OpName) (line : List ℕ) → AreNames limits lines names → schedule_line_fault limits lines line ≡ None → IsSkippedLine line ⊎ ((n : OpName) × IsNameLine limits (length names) line n)
line_read limits lines names line h clear =
    elim (cases_Bool (is_skipped (words_of line))) [
      | inl skipped ↦ inl skipped
      | inr said ↦ inr (words_read limits (length names) line (words_of line) refl said
          (sym (cond-false (is_skipped (words_of line)) None (schedule_words_fault limits (length names) (words_of line)) said) ∙ sym (fault_here limits lines names line h) ∙ clear))
    ]

-- lines without a fault are names
names_of : (limits : Limits) (lines done : List (List ℕ)) (names : List OpName) → AreNames limits done names → IsFaultless (schedule_line_fault limits) (done ++ lines) → (all : List OpName) × AreNames limits (done ++ lines) all
names_of limits [] done names h clear = (names, subst (λ (l : List (List ℕ)). AreNames limits l names) (sym (append-nil done)) h)
names_of limits (line ∷ lines) done names h clear =
    let joined : (done ++ line ∷ []) ++ lines ≡ done ++ line ∷ lines = append_assoc done (line ∷ []) lines in
    let clear_on : IsFaultless (schedule_line_fault limits) ((done ++ line ∷ []) ++ lines) = subst (λ (l : List (List ℕ)). IsFaultless (schedule_line_fault limits) l) (sym joined) clear in
    elim (line_read limits done names line h (clear done line lines refl)) [
      | inl skipped ↦ subst (λ (l : List (List ℕ)). (all : List OpName) × AreNames limits l all) joined (names_of limits lines (done ++ line ∷ []) names (push_skipped limits done names line h skipped) clear_on)
      | inr (n, new) ↦ subst (λ (l : List (List ℕ)). (all : List OpName) × AreNames limits l all) joined (names_of limits lines (done ++ line ∷ []) (names ++ n ∷ []) (push_name limits done names line n h new) clear_on)
    ]

pub spelled_or_refused : (limits : Limits) (text : List ℕ) → ((names : List OpName) × SpellsSchedule limits text names) ⊎ ((cause : ScheduleCause) × (line : ℕ) × HasScheduleFault limits text cause line)
spelled_or_refused limits text =
    elim (either (schedule_line_fault limits) (lines_of text)) [
      | inl clear ↦ (let all = names_of limits (lines_of text) [] [] (no_lines limits) clear in inl (all.0, spelled_by limits text all.0 all.1))
      | inr (place, found, h) ↦ inr (found, place, h)
    ]
