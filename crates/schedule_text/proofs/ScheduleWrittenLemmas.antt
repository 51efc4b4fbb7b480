-- The canonical text of a schedule spells it.
use Rattle.std.proofs.Common.{◌≡◌, ℕ, ◌^◌, ◌<◌, ◌≤◌, List, [], ◌∷◌, length, map, Bool, true, false, refl, ap, ◌∙◌, arith, append_assoc, length-append}
use Rattle.std.specs.List.{list_all, list_any}
use Rattle.std.specs.Char.{is_ascii_digit}
use Rattle.std.specs.Fmt.{decimal}
use Rattle.std.proofs.lemmas.Bool.{and_parts, and_from, or_from, or_right}
use Rattle.std.proofs.lemmas.Fmt.{decimal_is_IsNumeral}
use Rattle.std.proofs.lemmas.List.Folds.{list_any-append}
use Rattle.text_lines.specs.Lines.{lines_of, is_line_feed}
use Rattle.text_lines.specs.Words.{words_of, is_blank}
use Rattle.text_lines.proofs.Cutting.LineLemmas.{line_ended, one_word}
use Rattle.text_lines.proofs.Decimals.PlainLemmas.{own}
use Rattle.trace_semantics.specs.declared.operation.OpName.{OpName}
use Rattle.text_lines.specs.Kept.{kept, is_skipped}
use Rattle.trace_semantics.specs.Names.{may_begin_name, may_be_in_name}
use Rattle.schedule_text.specs.ScheduleText.{SpellsSchedule, name_word, is_op_name}
use Rattle.schedule_text.specs.ScheduleWritten.{canonical_schedule}
use Rattle.schedule_text.proofs.OpNameLemmas.{writable}
use Rattle.trace_semantics.proofs.NameByteLemmas.{name_bytes, apart, none_in_name, begins_no_comment}
use Rattle.schedule_text.proofs.ScheduleLemmas.{name_lines}
use Rattle.text_lines.proofs.Cutting.KeptLemmas.{kept_more}
use Rattle.trace_semantics.specs.declared.limits.Limits.{Limits}
use Rattle.trace_semantics.specs.Limits.{max_operations}

digits_in_name : (ds : List ℕ) → list_all is_ascii_digit ds ≡ true → list_all may_be_in_name ds ≡ true
digits_in_name [] h = refl
digits_in_name (d ∷ ds) h =
    let parts = and_parts (is_ascii_digit d) (list_all is_ascii_digit ds) h in
    and_from (may_be_in_name d) (list_all may_be_in_name ds) (or_right (may_begin_name d) (is_ascii_digit d) parts.0) (digits_in_name ds parts.1)

-- a byte that differs from the dot and from the bytes of names is not in a written name
none_in_word : (limits : Limits) (q : ℕ → Bool) → ((x : ℕ) → may_be_in_name x ≡ true → q x ≡ false) → q 46 ≡ false → (n : OpName) → is_op_name limits n ≡ true → list_any q (name_word n) ≡ false
none_in_word limits q differs dot n h =
    let parts = writable limits n h in
    let small : n.place < 2 ^ 64 = omega (arith, parts.small) in
    let digits = digits_in_name (decimal n.place) (own.from (decimal n.place) (decimal_is_IsNumeral n.place small).0.1) in
    list_any-append q n.process (46 ∷ decimal n.place)
    ∙ or_from _ _ (none_in_name q differs n.process (name_bytes n.process parts.name)) (or_from (q 46) (list_any q (decimal n.place)) dot (none_in_name q differs (decimal n.place) digits))

no_line_feed : (limits : Limits) (n : OpName) → is_op_name limits n ≡ true → list_any is_line_feed (name_word n) ≡ false
no_line_feed limits = none_in_word limits is_line_feed (λ x. apart 10 x refl) refl

no_blank : (limits : Limits) (n : OpName) → is_op_name limits n ≡ true → list_any is_blank (name_word n) ≡ false
no_blank limits = none_in_word limits is_blank (λ x h. or_from _ _ (or_from _ _ (apart 32 x refl h) (apart 9 x refl h)) (apart 13 x refl h)) refl

name_is_word : (limits : Limits) (n : OpName) → is_op_name limits n ≡ true → words_of (name_word n) ≡ name_word n ∷ []
name_is_word limits n h = one_word (name_word n) (omega (arith, length-append n.process (46 ∷ decimal n.place))) (no_blank limits n h)

written_lines : (limits : Limits) (names : List OpName) → list_all (is_op_name limits) names ≡ true → lines_of (canonical_schedule names) ≡ map name_word names
written_lines limits [] h = refl
written_lines limits (n ∷ names) h =
    let parts = and_parts (is_op_name limits n) (list_all (is_op_name limits) names) h in
    ap lines_of (append_assoc (name_word n) (10 ∷ []) (canonical_schedule names))
    ∙ line_ended (name_word n) (canonical_schedule names) (no_line_feed limits n parts.0)
    ∙ ap (λ l. name_word n ∷ l) (written_lines limits names parts.1)

kept_names : (limits : Limits) (names : List OpName) → list_all (is_op_name limits) names ≡ true → kept (map name_word names) ≡ name_lines names
kept_names limits [] h = refl
kept_names limits (n ∷ names) h =
    let parts = and_parts (is_op_name limits n) (list_all (is_op_name limits) names) h in
    let word = name_is_word limits n parts.0 in
    kept_more is_skipped (name_word n) (map name_word names) (ap is_skipped word ∙ begins_no_comment n.process (46 ∷ decimal n.place) (writable limits n parts.0).name)
    ∙ (λ i. word i ∷ kept_names limits names parts.1 i)

pub written_spells : (limits : Limits) (names : List OpName) → list_all (is_op_name limits) names ≡ true → length names ≤ max_operations limits → SpellsSchedule limits (canonical_schedule names) names
written_spells limits names h few = record { lines = ap kept (written_lines limits names h) ∙ kept_names limits names h; written = h; few = few }
