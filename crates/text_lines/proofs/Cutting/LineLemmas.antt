-- Lines and words of a text that is written.
use Rattle.std.proofs.Common.{◌≡◌, ℕ, ◌<◌, List, [], ◌∷◌, ◌++◌, length, Bool, true, false, not, refl, ap, sym, ◌∙◌, arith}
use Rattle.std.specs.List.{list_any, slice_split, onto_first, filter}
use Rattle.std.proofs.lemmas.Bool.{or_parts}
use Rattle.std.proofs.lemmas.List.Splits.{slice_split-cons_no, slice_split-cons_yes}
use Rattle.text_lines.specs.Lines.{lines_of, is_line_feed, without_empty_end}
use Rattle.text_lines.specs.Words.{words_of, is_blank, is_empty}
use Rattle.text_lines.proofs.Cutting.CutLemmas.{first_part, keeps_first, kept}

-- where nothing passes, the one part is all
pub split_whole : (p : ℕ → Bool) (xs : List ℕ) → list_any p xs ≡ false → slice_split p xs ≡ xs ∷ []
split_whole p [] h = refl
split_whole p (x ∷ xs) h =
    let parts = or_parts (p x) (list_any p xs) h in
    slice_split-cons_no p x xs parts.0 ∙ ap (onto_first x) (split_whole p xs parts.1)

-- the first part ends at the line feed
split_ended : (line rest : List ℕ) → list_any is_line_feed line ≡ false → slice_split is_line_feed (line ++ 10 ∷ rest) ≡ line ∷ slice_split is_line_feed rest
split_ended [] rest h = refl
split_ended (x ∷ line) rest h =
    let parts = or_parts (is_line_feed x) (list_any is_line_feed line) h in
    slice_split-cons_no is_line_feed x (line ++ 10 ∷ rest) parts.0 ∙ ap (onto_first x) (split_ended line rest parts.1)

-- a line that is ended by a line feed is the first line
pub line_ended : (line rest : List ℕ) → list_any is_line_feed line ≡ false → lines_of (line ++ 10 ∷ rest) ≡ line ∷ lines_of rest
line_ended line rest h =
    let next = first_part is_line_feed rest in
    ap without_empty_end (split_ended line rest h)
    ∙ ap (λ parts. without_empty_end (line ∷ parts)) next.whole
    ∙ keeps_first line next.part next.others
    ∙ ap (λ parts. line ∷ without_empty_end parts) (sym next.whole)

-- bytes without a blank are one word
pub one_word : (word : List ℕ) → 0 < length word → list_any is_blank word ≡ false → words_of word ≡ word ∷ []
one_word [] l h = absurd (omega (arith, l))
one_word (x ∷ xs) l h = ap (filter (λ w. not (is_empty w))) (split_whole is_blank (x ∷ xs) h) ∙ kept (x ∷ xs) [] x xs refl

-- the first part ends at the blank
split_blank : (word : List ℕ) (blank : ℕ) (rest : List ℕ) → list_any is_blank word ≡ false → is_blank blank ≡ true → slice_split is_blank (word ++ blank ∷ rest) ≡ word ∷ slice_split is_blank rest
split_blank [] blank rest h b = slice_split-cons_yes is_blank blank rest b
split_blank (x ∷ word) blank rest h b =
    let parts = or_parts (is_blank x) (list_any is_blank word) h in
    slice_split-cons_no is_blank x (word ++ blank ∷ rest) parts.0 ∙ ap (onto_first x) (split_blank word blank rest parts.1 b)

-- bytes without a blank, after which a blank stands, are the first word
pub word_ended : (word : List ℕ) (blank : ℕ) (rest : List ℕ) → 0 < length word → list_any is_blank word ≡ false → is_blank blank ≡ true → words_of (word ++ blank ∷ rest) ≡ word ∷ words_of rest
word_ended [] blank rest l h b = absurd (omega (arith, l))
word_ended (x ∷ xs) blank rest l h b = ap (filter (λ w. not (is_empty w))) (split_blank (x ∷ xs) blank rest h b) ∙ kept (x ∷ xs) (slice_split is_blank rest) x xs refl
