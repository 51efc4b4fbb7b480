-- How a line is cut from a text, and a word from a line.
use Rattle.std.proofs.Common.{◌≡◌, ℕ, suc, get_or, length-drop, ltb, ◌+◌, ◌<◌, ◌≤◌, ◌⊎◌, List, [], ◌∷◌, length, take, drop, Bool, true, false, not, cond, refl, ap, sym, ◌∙◌, arith, inl, inr}
use Rattle.std.specs.List.{slice_split, onto_first, filter, before_first, after_first, position_or_len, prefix_len}
use Rattle.std.proofs.lemmas.List.Splits.{slice_split_first, slice_split-cons_yes}
use Rattle.std.proofs.lemmas.List.Sums.{prefix_len-le-length, prefix_len_stops, prefix_len-drop_no}
use Rattle.std.specs.Prelude.{Some, None}
use Rattle.std.specs.List.{position}
use Rattle.std.proofs.lemmas.Option.{cond_some}
use Rattle.std.proofs.lemmas.Bool.{cases_lt, ltb-true, cond_below}
use Rattle.std.proofs.lemmas.Bool.Decides.{nat_tests}
use Rattle.std.proofs.lemmas.List.{take_all, drop_all}
use Rattle.text_lines.specs.Lines.{lines_of, is_line_feed, without_empty_end}
use Rattle.text_lines.specs.Words.{words_of, is_blank, is_empty}
use Rattle.text_lines.proofs.BoolLemmas.{not_not}

-- a split has a first part
pub record FirstPart (parts : List (List ℕ)) : Type 0 where
  pub part : List ℕ
  pub others : List (List ℕ)
  pub whole : parts ≡ part ∷ others

part_of : (p : ℕ → Bool) (x : ℕ) (xs : List ℕ) (b : Bool) → FirstPart (slice_split p xs) → FirstPart (cond b ([] ∷ slice_split p xs) (onto_first x (slice_split p xs)))
part_of p x xs true f = record { part = []; others = slice_split p xs; whole = refl }
part_of p x xs false f = record { part = x ∷ f.part; others = f.others; whole = ap (onto_first x) f.whole }

pub first_part : (p : ℕ → Bool) (xs : List ℕ) → FirstPart (slice_split p xs)
first_part p [] = record { part = []; others = []; whole = refl }
first_part p (x ∷ xs) = part_of p x xs (p x) (first_part p xs)

-- where nothing passes, the one part is all
whole_of : (p : ℕ → Bool) (x : ℕ) (xs : List ℕ) (b : Bool) → cond (not b) (1 + prefix_len (λ y. not (p y)) xs) 0 ≡ length xs + 1 → (prefix_len (λ y. not (p y)) xs ≡ length xs → slice_split p xs ≡ xs ∷ []) → cond b ([] ∷ slice_split p xs) (onto_first x (slice_split p xs)) ≡ (x ∷ xs) ∷ []
whole_of p x xs true h more = absurd (omega (arith, h))
whole_of p x xs false h more = ap (onto_first x) (more (omega (arith, h)))

pub whole_part : (p : ℕ → Bool) (xs : List ℕ) → position_or_len p xs ≡ length xs → slice_split p xs ≡ xs ∷ []
whole_part p [] h = refl
whole_part p (x ∷ xs) h = whole_of p x xs (p x) (omega (arith, h)) (whole_part p xs)

-- a split is what stands before the first that passes, and then the split of what stands after it, or the list
pub record CutsAt (p : ℕ → Bool) (xs : List ℕ) : Type 0 where
  pub split : slice_split p xs ≡ before_first p xs ∷ slice_split p (after_first p xs)

pub record Ends (p : ℕ → Bool) (xs : List ℕ) : Type 0 where
  pub split : slice_split p xs ≡ xs ∷ []
  pub front : before_first p xs ≡ xs
  pub back : after_first p xs ≡ []

pub cut_cases : (p : ℕ → Bool) (xs : List ℕ) → CutsAt p xs ⊎ Ends p xs
cut_cases p xs =
    let most : position_or_len p xs ≤ length xs = prefix_len-le-length (λ y. not (p y)) xs in
    elim (cases_lt (position_or_len p xs) (length xs)) [
      | inl h ↦ inl (record { split = slice_split_first p xs 0 h })
      | inr h ↦ inr (record { split = whole_part p xs (omega arith); front = take_all _ xs h; back = drop_all _ xs (omega arith) })
    ]

-- a piece before others is no empty end
pub keeps_first : (part other : List ℕ) (others : List (List ℕ)) → without_empty_end (part ∷ (other ∷ others)) ≡ part ∷ without_empty_end (other ∷ others)
keeps_first [] other others = refl
keeps_first (x ∷ part) other others = refl

-- a text of one byte or more: its first line is what stands before the first line feed
pub lines_cut : (xs : List ℕ) → 0 < length xs → lines_of xs ≡ before_first is_line_feed xs ∷ lines_of (after_first is_line_feed xs)
lines_cut [] h = absurd (omega (arith, h))
lines_cut (x ∷ xs) h =
    elim (cut_cases is_line_feed (x ∷ xs)) [
      | inl cut ↦ (
          let rest = first_part is_line_feed (after_first is_line_feed (x ∷ xs)) in
          ap without_empty_end (cut.split ∙ ap (λ l. before_first is_line_feed (x ∷ xs) ∷ l) rest.whole)
          ∙ keeps_first (before_first is_line_feed (x ∷ xs)) rest.part rest.others
          ∙ ap (λ l. before_first is_line_feed (x ∷ xs) ∷ without_empty_end l) (sym rest.whole))
      | inr end ↦ ap without_empty_end end.split ∙ (λ i. sym end.front i ∷ lines_of (sym end.back i))
    ]

-- blanks at the front are passed over
skip_of : (x : ℕ) (xs : List ℕ) (n : ℕ) (b : Bool) → is_blank x ≡ b → words_of xs ≡ words_of (drop n xs) → words_of (x ∷ xs) ≡ words_of (drop (cond b (1 + n) 0) (x ∷ xs))
skip_of x xs n true e more =
    let next : suc n ≡ 1 + n = omega arith in
    ap (filter (λ word. not (is_empty word))) (slice_split-cons_yes is_blank x xs e) ∙ more ∙ ap (λ k. words_of (drop k (x ∷ xs))) next
skip_of x xs n false e more = refl

pub words_skip : (xs : List ℕ) → words_of xs ≡ words_of (drop (prefix_len is_blank xs) xs)
words_skip [] = refl
words_skip (x ∷ xs) = skip_of x xs (prefix_len is_blank xs) (is_blank x) refl (words_skip xs)

before_cons : (x : ℕ) (xs : List ℕ) → is_blank x ≡ false → before_first is_blank (x ∷ xs) ≡ x ∷ before_first is_blank xs
before_cons x xs h =
    let one_more : position_or_len is_blank (x ∷ xs) ≡ suc (position_or_len is_blank xs) =
    ap (λ b. cond (not b) (1 + prefix_len (λ y. not (is_blank y)) xs) 0) h ∙ omega arith in
    ap (λ k. take k (x ∷ xs)) one_more

not_empty : (x : ℕ) (xs : List ℕ) → not (is_empty (x ∷ xs)) ≡ true
not_empty x xs = grind (arith, nat_tests)

-- a word is kept
pub kept : (word : List ℕ) (words : List (List ℕ)) (x : ℕ) (xs : List ℕ) → word ≡ x ∷ xs → filter (λ w. not (is_empty w)) (word ∷ words) ≡ word ∷ filter (λ w. not (is_empty w)) words
kept word words x xs e = ap (λ b. cond b (word ∷ filter (λ w. not (is_empty w)) words) (filter (λ w. not (is_empty w)) words)) (ap (λ w. not (is_empty w)) e ∙ not_empty x xs)

-- a line that begins with a word
words_cut_here : (x : ℕ) (xs : List ℕ) → is_blank x ≡ false → words_of (x ∷ xs) ≡ before_first is_blank (x ∷ xs) ∷ words_of (after_first is_blank (x ∷ xs))
words_cut_here x xs h =
    elim (cut_cases is_blank (x ∷ xs)) [
      | inl cut ↦ ap (filter (λ w. not (is_empty w))) cut.split ∙ kept (before_first is_blank (x ∷ xs)) (slice_split is_blank (after_first is_blank (x ∷ xs))) x (before_first is_blank xs) (before_cons x xs h)
      | inr end ↦ ap (filter (λ w. not (is_empty w))) end.split ∙ kept (x ∷ xs) [] x xs refl ∙ (λ i. sym end.front i ∷ words_of (sym end.back i))
    ]

first_is_no_blank : (x : ℕ) (xs : List ℕ) (b : Bool) → is_blank x ≡ b → cond b (1 + prefix_len is_blank xs) 0 ≡ 0 → words_of (x ∷ xs) ≡ before_first is_blank (x ∷ xs) ∷ words_of (after_first is_blank (x ∷ xs))
first_is_no_blank x xs true e h = absurd (omega (arith, h))
first_is_no_blank x xs false e h = words_cut_here x xs e

pub words_cut : (xs : List ℕ) → prefix_len is_blank xs ≡ 0 → 0 < length xs → words_of xs ≡ before_first is_blank xs ∷ words_of (after_first is_blank xs)
words_cut [] h l = absurd (omega (arith, l))
words_cut (x ∷ xs) h l = first_is_no_blank x xs (is_blank x) refl h

-- the line from its first word on
pub words_from : (xs : List ℕ) (start : ℕ) → start ≡ prefix_len is_blank xs → start < length xs → words_of xs ≡ before_first is_blank (drop start xs) ∷ words_of (after_first is_blank (drop start xs))
words_from xs start e l =
    let stops : is_blank (get_or xs start 0) ≡ false = ap (λ k. is_blank (get_or xs k 0)) e ∙ prefix_len_stops is_blank xs 0 (omega (arith, l, e)) in
    words_skip xs ∙ ap (λ k. words_of (drop k xs)) (sym e)
    ∙ words_cut (drop start xs) (prefix_len-drop_no is_blank xs start 0 l stops) (omega (arith, length-drop start xs))

pub words_none : (xs : List ℕ) → length xs ≤ prefix_len is_blank xs → words_of xs ≡ []
words_none xs h = words_skip xs ∙ ap words_of (drop_all _ xs h)

-- the place of the first byte that is no blank, where there is one
pub word_at : (xs : List ℕ) (start : ℕ) → Some start ≡ position (λ byte. not (is_blank byte)) xs → (start ≡ prefix_len is_blank xs) × (start < length xs)
word_at xs start e =
    let found = cond_some (ltb (position_or_len (λ byte. not (is_blank byte)) xs) (length xs)) (position_or_len (λ byte. not (is_blank byte)) xs) start (sym e) in
    let same : position_or_len (λ byte. not (is_blank byte)) xs ≡ prefix_len is_blank xs = λ i. prefix_len (λ x. not_not (is_blank x) i) xs in
    (sym found.1 ∙ same, (let below = ltb-true _ _ found.0 in omega (arith, below, found.1)))

pub no_word : (xs : List ℕ) → None ≡ position (λ byte. not (is_blank byte)) xs → length xs ≤ prefix_len is_blank xs
no_word xs e =
    let same : position_or_len (λ byte. not (is_blank byte)) xs ≡ prefix_len is_blank xs = λ i. prefix_len (λ x. not_not (is_blank x) i) xs in
    elim (cases_lt (position_or_len (λ byte. not (is_blank byte)) xs) (length xs)) [
      | inl h ↦ absurd (let none : None ≡ Some (position_or_len (λ byte. not (is_blank byte)) xs) = e ∙ sym (cond_below _ _ (Some (position_or_len (λ byte. not (is_blank byte)) xs)) None h) in cc)
      | inr h ↦ omega (arith, h, same)
    ]
