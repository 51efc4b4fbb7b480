-- The prefix of a text that ends where a line ends.
use Rattle.std.proofs.Common.{◌≡◌, ℕ, zero, suc, ◌+◌, ◌≤◌, ◌⊎◌, List, [], ◌∷◌, ◌++◌, length, take, get_or, Bool, true, false, not, cond, refl, ap, sym, ◌∙◌, inl, inr, arith, length-append}
use Rattle.std.specs.Prelude.{min}
use Rattle.std.specs.List.{list_any, before_first, after_first, position_or_len}
use Rattle.std.proofs.lemmas.Bool.{cases_lt, or_from, eqb-true, not-false}
use Rattle.std.proofs.lemmas.List.{take_all, drop_all}
use Rattle.std.proofs.lemmas.List.Sums.{split_at_first, prefix_len_stops}
use Rattle.text_lines.specs.Lines.{lines_of, is_line_feed}
use Rattle.text_lines.proofs.Cutting.CutLemmas.{lines_cut}
use Rattle.text_lines.proofs.Cutting.LineLemmas.{line_ended}
use Rattle.cube_tree.specs.TreeText.{line_bytes}

-- nothing passes before the first that does
none_of : (p : ℕ → Bool) (x : ℕ) (xs : List ℕ) (k : ℕ) (b : Bool) → p x ≡ b → list_any p (take k xs) ≡ false → list_any p (take (cond (not b) (1 + k) 0) (x ∷ xs)) ≡ false
none_of p x xs k true e rest = refl
none_of p x xs k false e rest =
    let next : 1 + k ≡ suc k = omega arith in
    ap (λ n. list_any p (take n (x ∷ xs))) next ∙ or_from (p x) (list_any p (take k xs)) e rest

none_before : (p : ℕ → Bool) (xs : List ℕ) → list_any p (before_first p xs) ≡ false
none_before p [] = refl
none_before p (x ∷ xs) = none_of p x xs (position_or_len p xs) (p x) refl (none_before p xs)

-- a text that has a line: the line, a line feed and what is after it, or the line alone
record IsEnded (text line : List ℕ) (lines : List (List ℕ)) : Type 0 where
  behind : List ℕ
  parts : text ≡ line ++ 10 ∷ behind
  none : list_any is_line_feed line ≡ false
  others : lines_of behind ≡ lines

record IsLast (text line : List ℕ) (lines : List (List ℕ)) : Type 0 where
  whole : text ≡ line
  none : lines ≡ []

first_line : (text line : List ℕ) (lines : List (List ℕ)) → lines_of text ≡ line ∷ lines → IsEnded text line lines ⊎ IsLast text line lines
first_line [] line lines e = absurd (cc)
first_line (x ∷ xs) line lines e =
    let text = x ∷ xs in
    let cut : before_first is_line_feed text ∷ lines_of (after_first is_line_feed text) ≡ line ∷ lines = sym (lines_cut text (omega arith)) ∙ e in
    let line_is : before_first is_line_feed text ≡ line = cc in
    let lines_are : lines_of (after_first is_line_feed text) ≡ lines = cc in
    let p = position_or_len is_line_feed text in
    elim (cases_lt p (length text)) [
      | inl h ↦ (
          let feed : get_or text p 0 ≡ 10 = eqb-true (get_or text p 0) 10 (not-false (is_line_feed (get_or text p 0)) (prefix_len_stops (λ y. not (is_line_feed y)) text 0 h)) in
          inl (record {
            behind = after_first is_line_feed text;
            parts = split_at_first is_line_feed text 0 h ∙ (λ i. line_is i ++ feed i ∷ after_first is_line_feed text);
            none = ap (list_any is_line_feed) (sym line_is) ∙ none_before is_line_feed text;
            others = lines_are;
          }))
      | inr h ↦ (
          let none : after_first is_line_feed text ≡ [] = drop_all (p + 1) text (omega (arith, h)) in
          inr (record { whole = sym (take_all p text h) ∙ line_is; none = sym lines_are ∙ ap lines_of none }))
    ]

take_on : (line rest : List ℕ) (n m : ℕ) → n ≡ length line + (m + 1) → take n (line ++ 10 ∷ rest) ≡ line ++ 10 ∷ take m rest
take_on [] rest zero m e = absurd (omega (arith, e))
take_on [] rest (suc n) m e = let same : n ≡ m = omega (arith, e) in ap (λ k. 10 ∷ take k rest) same
take_on (x ∷ line) rest zero m e = absurd (omega (arith, e))
take_on (x ∷ line) rest (suc n) m e = ap (λ l. x ∷ l) (take_on line rest n m (omega (arith, e)))

-- the bytes of the first lines are a text of these lines
pub front_lines : (lines others : List (List ℕ)) (text : List ℕ) → lines_of text ≡ lines ++ others → lines_of (take (min (length text) (line_bytes lines)) text) ≡ lines
front_lines [] others text e = let none : min (length text) 0 ≡ 0 = omega arith in ap (λ n. lines_of (take n text)) none
front_lines (line ∷ lines) others text e =
    let most = min (length text) ((length line + 1) + line_bytes lines) in
    elim (first_line text line (lines ++ others) e) [
      | inl f ↦ (
          let long : length text ≡ length line + (length f.behind + 1) = ap length f.parts ∙ length-append line (10 ∷ f.behind) ∙ omega arith in
          let count : most ≡ length line + (min (length f.behind) (line_bytes lines) + 1) = omega (arith, long) in
          ap (λ t. lines_of (take most t)) f.parts
          ∙ ap lines_of (take_on line f.behind most (min (length f.behind) (line_bytes lines)) count)
          ∙ line_ended line (take (min (length f.behind) (line_bytes lines)) f.behind) f.none
          ∙ ap (λ ls. line ∷ ls) (front_lines lines others f.behind f.others))
      | inr f ↦ (
          let nothing : lines ≡ [] = no_front lines others f.none in
          let all : length text ≤ most = omega (arith, ap length f.whole) in
          ap lines_of (take_all most text all) ∙ e ∙ (λ i. line ∷ (f.none i)) ∙ ap (λ ls. line ∷ ls) (sym nothing))
    ]
  where
    no_front : (xs ys : List (List ℕ)) → xs ++ ys ≡ [] → xs ≡ []
    no_front [] ys h = refl
    no_front (x ∷ xs) ys h = absurd (cc)
