-- Lines that are written are read back.
use Rattle.std.proofs.Common.{◌≡◌, ℕ, ◌^◌, ◌<◌, List, [], ◌∷◌, length, Bool, true, false, not, ◌&&◌, refl, ap, ◌∙◌, arith, append_assoc}
use Rattle.std.specs.Char.{is_ascii_digit}
use Rattle.std.specs.Fmt.{decimal}
use Rattle.std.specs.List.{list_all, list_any, flat_map, join_with_byte}
use Rattle.std.proofs.lemmas.Bool.{and_parts, and_from, or_from, or_right, not-true, not_from_false, ne_eqb}
use Rattle.std.proofs.lemmas.Fmt.{decimal_is_IsNumeral, decimal_nonempty}
use Rattle.std.proofs.lemmas.List.Folds.{list_any-append}
use Rattle.text_lines.specs.Lines.{lines_of, is_line_feed}
use Rattle.text_lines.specs.Words.{words_of, is_blank, is_empty}
use Rattle.text_lines.proofs.Cutting.LineLemmas.{line_ended, one_word, word_ended}
use Rattle.text_lines.proofs.Decimals.PlainLemmas.{own, not_empty}
use Rattle.text_lines.specs.Kept.{kept, is_skipped}
use Rattle.trace_semantics.specs.Names.{is_name, may_begin_name, may_be_in_name}
use Rattle.trace_text.specs.TraceWritten.{line_text}
use Rattle.trace_semantics.proofs.ElementLemmas.{all_pass, pass_all}
use Rattle.trace_semantics.proofs.NameByteLemmas.{name_bytes, apart, none_in_name}
use Rattle.text_lines.proofs.Cutting.KeptLemmas.{kept_more}

-- bytes that are a word
abbrev pub is_word : List ℕ → Bool
is_word word = not (is_empty word) && not (list_any is_blank word) && not (list_any is_line_feed word)

record IsWord (word : List ℕ) : Type 0 where
  some : 0 < length word
  no_blank : list_any is_blank word ≡ false
  no_line_feed : list_any is_line_feed word ≡ false

parts_of : (word : List ℕ) → is_word word ≡ true → IsWord word
parts_of word h =
    let outer = and_parts (not (is_empty word) && not (list_any is_blank word)) (not (list_any is_line_feed word)) h in
    let inner = and_parts (not (is_empty word)) (not (list_any is_blank word)) outer.0 in
    record { some = not_empty word inner.0; no_blank = not-true _ inner.1; no_line_feed = not-true _ outer.1 }

-- bytes that may be in a name are a word
name_bytes_are_word : (word : List ℕ) → 0 < length word → list_all may_be_in_name word ≡ true → is_word word ≡ true
name_bytes_are_word word some h =
    and_from _ _
    (and_from _ _
    (not_from_false (is_empty word) (ne_eqb (length word) 0 (λ e. omega (arith, e, some))))
    (not_from_false _ (none_in_name is_blank (λ x k. or_from _ _ (or_from _ _ (apart 32 x refl k) (apart 9 x refl k)) (apart 13 x refl k)) word h)))
    (not_from_false _ (none_in_name is_line_feed (λ x. apart 10 x refl) word h))

pub name_is_word : (p : List ℕ) → is_name p ≡ true → is_word p ≡ true
name_is_word [] h = h
name_is_word (x ∷ xs) h = name_bytes_are_word (x ∷ xs) (omega arith) (name_bytes (x ∷ xs) h)

pub number_is_word : (n : ℕ) → n < 2 ^ 64 → is_word (decimal n) ≡ true
number_is_word n small =
    let digits = own.from (decimal n) (decimal_is_IsNumeral n small).0.1 in
    name_bytes_are_word (decimal n) (decimal_nonempty n small) (pass_all may_be_in_name (decimal n) (λ x c. or_right (may_begin_name x) (is_ascii_digit x) (all_pass is_ascii_digit (decimal n) digits x c)))

-- the words of a line that says something
abbrev pub is_line : List (List ℕ) → Bool
is_line words = list_all is_word words && not (is_skipped words)

pub no_line_feed_joined : (words : List (List ℕ)) → list_all is_word words ≡ true → list_any is_line_feed (join_with_byte 32 words) ≡ false
no_line_feed_joined [] h = refl
no_line_feed_joined (w ∷ []) h = (parts_of w (and_parts (is_word w) true h).0).no_line_feed
no_line_feed_joined (w ∷ (v ∷ words)) h =
    let parts = and_parts (is_word w) (list_all is_word (v ∷ words)) h in
    list_any-append is_line_feed w (32 ∷ join_with_byte 32 (v ∷ words)) ∙ or_from _ _ (parts_of w parts.0).no_line_feed (no_line_feed_joined (v ∷ words) parts.1)

pub words_joined : (words : List (List ℕ)) → list_all is_word words ≡ true → words_of (join_with_byte 32 words) ≡ words
words_joined [] h = refl
words_joined (w ∷ []) h = let word = parts_of w (and_parts (is_word w) true h).0 in one_word w word.some word.no_blank
words_joined (w ∷ (v ∷ words)) h =
    let parts = and_parts (is_word w) (list_all is_word (v ∷ words)) h in
    let word = parts_of w parts.0 in
    word_ended w 32 (join_with_byte 32 (v ∷ words)) word.some word.no_blank refl ∙ ap (λ l. w ∷ l) (words_joined (v ∷ words) parts.1)

-- the lines that are kept of a written text are those that were written
pub written_kept : (lines : List (List (List ℕ))) → list_all is_line lines ≡ true → kept (lines_of (flat_map line_text lines)) ≡ lines
written_kept [] h = refl
written_kept (line ∷ lines) h =
    let parts = and_parts (is_line line) (list_all is_line lines) h in
    let said = and_parts (list_all is_word line) (not (is_skipped line)) parts.0 in
    let words = words_joined line said.0 in
    ap (λ l. kept (lines_of l)) (append_assoc (join_with_byte 32 line) (10 ∷ []) (flat_map line_text lines))
    ∙ ap kept (line_ended (join_with_byte 32 line) (flat_map line_text lines) (no_line_feed_joined line said.0))
    ∙ kept_more is_skipped (join_with_byte 32 line) (lines_of (flat_map line_text lines)) (ap is_skipped words ∙ not-true _ said.1)
    ∙ (λ i. words i ∷ written_kept lines parts.1 i)
