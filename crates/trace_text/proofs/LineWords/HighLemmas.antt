-- Bytes above 127: a line has one where one of its words has, and names and numbers have none.
use Rattle.std.proofs.Common.{◌≡◌, ℕ, ◌+◌, ◌^◌, ◌<◌, ◌≤◌, List, [], ◌∷◌, length, take, get_or, max, Bool, true, false, not, ◌||◌, ltb, leb, eqb, refl, ap, sym, ◌∙◌, arith, inl, inr}
use Rattle.std.specs.Char.{is_ascii_alphabetic, is_ascii_digit}
use Rattle.std.specs.Fmt.{decimal}
use Rattle.std.specs.Int.{is_in_range}
use Rattle.std.specs.List.{list_any, list_all, filter, slice_split, onto_first}
use Rattle.std.proofs.lemmas.Bool.{and_parts, or_from, or_cases, eqb-true, ltb-true, leb-true, false_from_ne_true}
use Rattle.std.proofs.lemmas.Bool.Decides.{nat_tests}
use Rattle.std.proofs.lemmas.List.Folds.{list_any_more}
use Rattle.std.proofs.lemmas.Fmt.{decimal_is_IsNumeral}
use Rattle.std.proofs.lemmas.List.Splits.{slice_split-cons_no, slice_split-cons_yes}
use Rattle.text_lines.specs.Words.{words_of, is_blank, is_empty}
use Rattle.text_lines.proofs.Cutting.CutLemmas.{FirstPart, first_part, kept}
use Rattle.text_lines.proofs.Decimals.PlainLemmas.{own}
use Rattle.trace_semantics.specs.Names.{is_name, may_begin_name, may_be_in_name}
use Rattle.trace_text.specs.TraceFault.{is_high}
use Rattle.trace_semantics.proofs.NameByteLemmas.{none_in_name, name_bytes}

-- a word has a byte above 127, and so has a line of words
abbrev pub high_word : List ℕ → Bool
high_word word = list_any is_high word

abbrev pub high_words : List (List ℕ) → Bool
high_words words = list_any high_word words

or_assoc : (a b c : Bool) → ((a || b) || c) ≡ (a || (b || c))
or_assoc true b c = refl
or_assoc false b c = refl

-- a test on the bytes of the parts of a split is one on all bytes, where it passes none that splits
any_onto : (q : ℕ → Bool) (x : ℕ) (parts : List (List ℕ)) → FirstPart parts → list_any (list_any q) (onto_first x parts) ≡ (q x || list_any (list_any q) parts)
any_onto q x parts f =
    ap (λ ps. list_any (list_any q) (onto_first x ps)) f.whole
    ∙ or_assoc (q x) (list_any q f.part) (list_any (list_any q) f.others)
    ∙ ap (λ ps. q x || list_any (list_any q) ps) (sym f.whole)

any_split_at : (p q : ℕ → Bool) (x : ℕ) (xs : List ℕ) (b : Bool) → p x ≡ b → (p x ≡ true → q x ≡ false) → list_any (list_any q) (slice_split p xs) ≡ list_any q xs →
    list_any (list_any q) (slice_split p (x ∷ xs)) ≡ (q x || list_any q xs)
any_split_at p q x xs true e apart more = ap (list_any (list_any q)) (slice_split-cons_yes p x xs e) ∙ more ∙ ap (λ b. b || list_any q xs) (sym (apart e))
any_split_at p q x xs false e apart more = ap (list_any (list_any q)) (slice_split-cons_no p x xs e) ∙ any_onto q x (slice_split p xs) (first_part p xs) ∙ ap (λ b. q x || b) more

any_split : (p q : ℕ → Bool) → ((x : ℕ) → p x ≡ true → q x ≡ false) → (xs : List ℕ) → list_any (list_any q) (slice_split p xs) ≡ list_any q xs
any_split p q apart [] = refl
any_split p q apart (x ∷ xs) = any_split_at p q x xs (p x) refl (apart x) (any_split p q apart xs)

any_filled : (q : ℕ → Bool) (ws : List (List ℕ)) → list_any (list_any q) (filter (λ w. not (is_empty w)) ws) ≡ list_any (list_any q) ws
any_filled q [] = refl
any_filled q ([] ∷ ws) = any_filled q ws
any_filled q ((x ∷ w) ∷ ws) = ap (list_any (list_any q)) (kept (x ∷ w) ws x w refl) ∙ ap (λ b. list_any q (x ∷ w) || b) (any_filled q ws)

-- a byte up to 127
low_byte : (x : ℕ) → x ≤ 127 → is_high x ≡ false
low_byte x h = false_from_ne_true (ltb 127 x) (λ k. let above = ltb-true 127 x k in omega (arith, h, above))

blank_low : (x : ℕ) → is_blank x ≡ true → is_high x ≡ false
blank_low x h =
    elim (or_cases (eqb x 32 || eqb x 9) (eqb x 13) h) [
      | inl k ↦ elim (or_cases (eqb x 32) (eqb x 9) k) [
        | inl e ↦ (let same = eqb-true x 32 e in low_byte x (omega (arith, same)))
        | inr e ↦ (let same = eqb-true x 9 e in low_byte x (omega (arith, same)))
      ]
      | inr e ↦ (let same = eqb-true x 13 e in low_byte x (omega (arith, same)))
    ]

-- a line has a byte above 127 where one of its words has
pub high_line : (line : List ℕ) → list_any is_high line ≡ high_words (words_of line)
high_line line = sym (any_filled is_high (slice_split is_blank line) ∙ any_split is_blank is_high blank_low line)

in_range_low : (a b x : ℕ) → b ≤ 127 → is_in_range a b x ≡ true → is_high x ≡ false
in_range_low a b x l h = let most = leb-true x b (and_parts (leb a x) (leb x b) h).1 in low_byte x (omega (arith, l, most))

name_low : (x : ℕ) → may_be_in_name x ≡ true → is_high x ≡ false
name_low x h =
    elim (or_cases (may_begin_name x) (is_ascii_digit x) h) [
      | inl first ↦ elim (or_cases (is_ascii_alphabetic x) (eqb x 95) first) [
        | inl letter ↦ elim (or_cases (is_in_range 65 90 x) (is_in_range 97 122 x) letter) [
          | inl k ↦ in_range_low 65 90 x (omega arith) k
          | inr k ↦ in_range_low 97 122 x (omega arith) k
        ]
        | inr e ↦ (let same = eqb-true x 95 e in low_byte x (omega (arith, same)))
      ]
      | inr digit ↦ in_range_low 48 57 x (omega arith) digit
    ]

pub low_name : (name : List ℕ) → is_name name ≡ true → high_word name ≡ false
low_name name h = none_in_name is_high name_low name (name_bytes name h)

digits_low : (ds : List ℕ) → list_all is_ascii_digit ds ≡ true → high_word ds ≡ false
digits_low [] h = refl
digits_low (d ∷ ds) h =
    let parts = and_parts (is_ascii_digit d) (list_all is_ascii_digit ds) h in
    or_from (is_high d) (high_word ds) (in_range_low 48 57 d (omega arith) parts.0) (digits_low ds parts.1)

pub low_decimal : (n : ℕ) → n < 2 ^ 64 → high_word (decimal n) ≡ false
low_decimal n small = digits_low (decimal n) (own.from (decimal n) (decimal_is_IsNumeral n small).0.1)

-- the larger of two bytes is above 127 where one of them is
high_larger : (a b : ℕ) → is_high (max a b) ≡ (is_high a || is_high b)
high_larger a b = grind (arith, nat_tests)

-- the largest byte so far, and one more
pub high_more : (line : List ℕ) (i most : ℕ) → i < length line → is_high most ≡ list_any is_high (take i line) → is_high (max most (get_or line i 0)) ≡ list_any is_high (take (i + 1) line)
high_more line i most l e = high_larger most (get_or line i 0) ∙ ap (λ b. b || is_high (get_or line i 0)) e ∙ sym (list_any_more is_high line i 0 l)
