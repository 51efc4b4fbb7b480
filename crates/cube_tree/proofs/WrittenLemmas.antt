-- The canonical text of a tree spells it, and the lines after a tree are the text's others.
use Rattle.std.proofs.Common.{◌≡◌, ℕ, zero, suc, ◌+◌, ◌-◌, ◌^◌, ◌<◌, ◌≤◌, List, [], ◌∷◌, ◌++◌, length, map, take, drop, true, leb, refl, ap, sym, ◌∙◌, arith, inl, inr, append_assoc, length-append, length-drop}
use Rattle.std.specs.Prelude.{min, ◌&&◌, codes, decimal}
use Rattle.std.specs.Char.{is_ascii_digit}
use Rattle.std.specs.List.{list_all, before_first, after_first, position_or_len}
use Rattle.std.proofs.lemmas.Bool.{and_parts, leb-true, cases_lt}
use Rattle.std.proofs.lemmas.Fmt.{decimal_is_IsNumeral}
use Rattle.std.proofs.lemmas.List.{map-append, length-map, drop-drop, drop_all, length-take, take_at}
use Rattle.std.proofs.lemmas.List.Folds.{list_any-append}
use Rattle.dimacs.specs.Literal.{most_variable}
use Rattle.text_lines.specs.Lines.{lines_of, is_line_feed}
use Rattle.text_lines.specs.Words.{words_of, is_blank}
use Rattle.text_lines.proofs.Cutting.CutLemmas.{lines_cut}
use Rattle.text_lines.proofs.Cutting.LineLemmas.{line_ended, word_ended, one_word}
use Rattle.text_lines.proofs.Decimals.PlainLemmas.{own}
use Rattle.text_lines.proofs.Decimals.DigitLemmas.{none_in_digits, digit_no_feed, digit_no_blank}
use Rattle.cube_tree.specs.CubeTree.{CubeTree, leaf, split, is_variable, splits_variables, IsCubeTree}
use Rattle.cube_tree.specs.TreeText.{tree_lines, line_bytes, front_bytes, SpellsTree, tree_text}
use Rattle.cube_tree.proofs.TextLemmas.{line_bytes-append}

pub variable_small : (v : ℕ) → is_variable v ≡ true → v < 2 ^ 64
variable_small v h = (let high = leb-true v most_variable (and_parts (leb 1 v) (leb v most_variable) h).1 in omega (arith, high))

digits : (v : ℕ) → is_variable v ≡ true → list_all is_ascii_digit (decimal v) ≡ true
digits v h = own.from (decimal v) (decimal_is_IsNumeral v (variable_small v h)).0.1

-- the lines of the canonical text, without their line feeds
abbrev written : CubeTree → List (List ℕ)
written leaf = codes "leaf" ∷ []
written (split v left right) = (codes "split " ++ decimal v) ∷ (written left ++ written right)

split_line : (v : ℕ) (rest : List ℕ) → is_variable v ≡ true → lines_of ((codes "split " ++ decimal v) ++ 10 ∷ rest) ≡ (codes "split " ++ decimal v) ∷ lines_of rest
split_line v rest h =
    line_ended (codes "split " ++ decimal v) rest (list_any-append is_line_feed (codes "split ") (decimal v) ∙ none_in_digits is_line_feed digit_no_feed (decimal v) (digits v h))

written_lines : (tree : CubeTree) (behind : List ℕ) → splits_variables tree ≡ true → lines_of (tree_text tree ++ behind) ≡ written tree ++ lines_of behind
written_lines leaf behind h = line_ended (codes "leaf") behind refl
written_lines (split v left right) behind h =
    let parts = and_parts (is_variable v) (splits_variables left && splits_variables right) h in
    let below = and_parts (splits_variables left) (splits_variables right) parts.1 in
    ap lines_of
    (append_assoc (codes "split ") (decimal v ++ (codes "\n" ++ (tree_text left ++ tree_text right))) behind
    ∙ ap (λ t. codes "split " ++ t) (append_assoc (decimal v) (codes "\n" ++ (tree_text left ++ tree_text right)) behind)
    ∙ sym (append_assoc (codes "split ") (decimal v) ((codes "\n" ++ (tree_text left ++ tree_text right)) ++ behind)))
    ∙ split_line v ((tree_text left ++ tree_text right) ++ behind) parts.0
    ∙ ap (λ ls. (codes "split " ++ decimal v) ∷ ls)
    (ap lines_of (append_assoc (tree_text left) (tree_text right) behind)
    ∙ written_lines left (tree_text right ++ behind) below.0
    ∙ ap (λ ls. written left ++ ls) (written_lines right behind below.1)
    ∙ sym (append_assoc (written left) (written right) (lines_of behind)))

written_words : (tree : CubeTree) → splits_variables tree ≡ true → map words_of (written tree) ≡ tree_lines tree
written_words leaf h = ap (λ w. w ∷ []) (one_word (codes "leaf") (omega arith) refl)
written_words (split v left right) h =
    let parts = and_parts (is_variable v) (splits_variables left && splits_variables right) h in
    let below = and_parts (splits_variables left) (splits_variables right) parts.1 in
    let number = one_word (decimal v) (decimal_is_IsNumeral v (variable_small v parts.0)).0.0 (none_in_digits is_blank digit_no_blank (decimal v) (digits v parts.0)) in
    let line : words_of (codes "split " ++ decimal v) ≡ codes "split" ∷ (decimal v ∷ []) =
    word_ended (codes "split") 32 (decimal v) (omega arith) refl refl ∙ ap (λ ws. codes "split" ∷ ws) number in
    (λ i. line i ∷ (map-append words_of (written left) (written right) ∙ (λ j. written_words left below.0 j ++ written_words right below.1 j)) i)

written_bytes : (tree : CubeTree) → line_bytes (written tree) ≡ length (tree_text tree)
written_bytes leaf = refl
written_bytes (split v left right) =
    omega (
      arith,
      line_bytes-append (written left) (written right),
      written_bytes left,
      written_bytes right,
      length-append (codes "split ") (decimal v),
      length-append (codes "split ") (decimal v ++ (codes "\n" ++ (tree_text left ++ tree_text right))),
      length-append (decimal v) (codes "\n" ++ (tree_text left ++ tree_text right)),
      length-append (codes "\n") (tree_text left ++ tree_text right),
      length-append (tree_text left) (tree_text right),
    )

pub written_spells : (tree : CubeTree) (behind : List ℕ) → IsCubeTree tree → SpellsTree (tree_text tree ++ behind) tree (length (tree_text tree))
written_spells tree behind h =
    let words = written_words tree h.variables in
    let count : length (tree_lines tree) ≡ length (written tree) = ap length (sym words) ∙ length-map (written tree) words_of in
    let front : take (length (tree_lines tree)) (lines_of (tree_text tree ++ behind)) ≡ written tree =
    (λ i. take (count i) (written_lines tree behind h.variables i)) ∙ take_at (written tree) (lines_of behind) (length (written tree)) refl in
    record {
      lines = ap (map words_of) front ∙ words;
      within = h;
      taken = omega (arith, ap line_bytes front, written_bytes tree, length-append (tree_text tree) behind);
    }

-- what stands after the first n lines
none_left : (n : ℕ) (text : List ℕ) → length text ≡ 0 → lines_of (drop (front_bytes n text) text) ≡ drop n (lines_of text)
none_left zero [] e = refl
none_left (suc n) [] e = refl
none_left n (x ∷ text) e = absurd (omega (arith, e))

pub lines_behind : (n : ℕ) (text : List ℕ) → lines_of (drop (front_bytes n text) text) ≡ drop n (lines_of text)
lines_behind zero text = ap (λ k. lines_of (drop k text)) (let none : min (length text) 0 ≡ 0 = omega arith in none)
lines_behind (suc n) [] = none_left (suc n) [] refl
lines_behind (suc n) (x ∷ text) =
    let cut = lines_cut (x ∷ text) (omega arith) in
    let p = position_or_len is_line_feed (x ∷ text) in
    let after = after_first is_line_feed (x ∷ text) in
    let front : length (before_first is_line_feed (x ∷ text)) ≡ min p (length (x ∷ text)) = length-take p (x ∷ text) in
    let back : length after ≡ length (x ∷ text) - (p + 1) = length-drop (p + 1) (x ∷ text) in
    let bytes : line_bytes (take (suc n) (lines_of (x ∷ text))) ≡ (length (before_first is_line_feed (x ∷ text)) + 1) + line_bytes (take n (lines_of after)) = ap (λ ls. line_bytes (take (suc n) ls)) cut in
    let rest : drop (front_bytes (suc n) (x ∷ text)) (x ∷ text) ≡ drop (front_bytes n after) after =
    elim (cases_lt p (length (x ∷ text))) [
      | inl h ↦ (
          let same : front_bytes (suc n) (x ∷ text) ≡ (p + 1) + front_bytes n after = omega (arith, bytes, front, back, h) in
          ap (λ k. drop k (x ∷ text)) same ∙ sym (drop-drop (front_bytes n after) (p + 1) (x ∷ text)))
      | inr h ↦ (
          let most : length (x ∷ text) ≤ front_bytes (suc n) (x ∷ text) = omega (arith, bytes, front, h) in
          drop_all (front_bytes (suc n) (x ∷ text)) (x ∷ text) most ∙ sym (drop_all (front_bytes n after) after (omega (arith, back, h))))
    ] in
    ap lines_of rest ∙ lines_behind n after ∙ ap (drop (suc n)) (sym cut)

pub others_behind : (text : List ℕ) (tree : CubeTree) (bytes : ℕ) → SpellsTree text tree bytes → (bytes ≤ length text) × (lines_of (drop bytes text) ≡ drop (length (tree_lines tree)) (lines_of text))
others_behind text tree bytes h =
    (omega (arith, h.taken), ap (λ k. lines_of (drop k text)) h.taken ∙ lines_behind (length (tree_lines tree)) text)
