-- The lines up to the header, and the parts of a text after it.
use Rattle.std.proofs.Common.{◌≡◌, ℕ, ◌+◌, ◌*◌, ◌<◌, ◌≤◌, List, [], ◌∷◌, ◌++◌, length, true, false, refl, ap, sym, ◌∙◌, inl, inr, arith, append_assoc, append-nil, length-append}
use Rattle.std.specs.List.{list_all}
use Rattle.std.proofs.lemmas.Bool.{and_from}
use Rattle.std.proofs.lemmas.List.{length_push}
use Rattle.std.proofs.lemmas.List.Folds.{list_all-append}
use Rattle.text_lines.specs.Lines.{lines_of}
use Rattle.text_lines.specs.Words.{words_of}
use Rattle.cube_tree.specs.CubeTree.{CubeTree, leaf, split, leaves}
use Rattle.cube_tree.specs.TreeText.{tree_lines, line_bytes}
use Rattle.cube_tree.specs.TreeFault.{HasTreeFault}
use Rattle.cube_tree.specs.declared.tree_fault.TreeCause.{TreeCause}
use Rattle.cube_tree.proofs.TextLemmas.{most_bytes}
use Rattle.lrat_check.specs.LratFaults.{HasLratFault}
use Rattle.lrat_check.specs.declared.lrat_fault.LratCause.{LratCause}
use Rattle.certificate.specs.CertFaults.{LacksHeader}
use Rattle.certificate.specs.CertLine.{is_skipped_line, is_header}
use Rattle.certificate.specs.CertText.{IsHeaded}
use Rattle.certificate.specs.declared.cert_fault.CertCause.TheVariants.{Header}

-- lines that say nothing
pub record IsSilentSoFar (text : List ℕ) (number : ℕ) (rest : List ℕ) : Type 0 where
  pub done : List (List ℕ)
  pub parts : lines_of text ≡ done ++ lines_of rest
  pub counted : number ≡ length done
  pub silent : list_all is_skipped_line done ≡ true
  pub behind : number + length rest ≤ length text

pub none_yet : (text : List ℕ) → IsSilentSoFar text 0 text
none_yet text = record { done = []; parts = refl; counted = refl; silent = refl; behind = omega arith }

pub next_silent : (text : List ℕ) (number : ℕ) (rest line after : List ℕ) → IsSilentSoFar text number rest → lines_of rest ≡ line ∷ lines_of after → length after < length rest → is_skipped_line line ≡ true →
    IsSilentSoFar text (number + 1) after
next_silent text number rest line after h cut shorter silent = record {
  done = h.done ++ line ∷ [];
  parts = h.parts ∙ ap (λ ls. h.done ++ ls) cut ∙ sym (append_assoc h.done (line ∷ []) (lines_of after));
  counted = omega (arith, h.counted, length_push h.done line);
  silent = list_all-append is_skipped_line h.done (line ∷ []) ∙ and_from _ _ h.silent (and_from _ true silent refl);
  behind = omega (arith, h.behind, shorter);
}

pub found : (text : List ℕ) (number : ℕ) (rest line after : List ℕ) → IsSilentSoFar text number rest → lines_of rest ≡ line ∷ lines_of after → is_header (words_of line) ≡ true → IsHeaded text after (number + 1)
found text number rest line after h cut says = record {
  before = h.done;
  header = line;
  parts = h.parts ∙ ap (λ ls. h.done ++ ls) cut;
  counted = omega (arith, h.counted);
  silent = h.silent;
  says = says;
}

pub other_first : (text : List ℕ) (number : ℕ) (rest line after : List ℕ) → IsSilentSoFar text number rest → lines_of rest ≡ line ∷ lines_of after → is_skipped_line line ≡ false → is_header (words_of line) ≡ false →
    LacksHeader text Header (number + 1)
other_first text number rest line after h cut said other = (
  refl,
  inl (record {
    before = h.done;
    first = line;
    after = lines_of after;
    parts = h.parts ∙ ap (λ ls. h.done ++ ls) cut;
    counted = omega (arith, h.counted);
    silent = h.silent;
    said = said;
    other = other;
  }),
)

pub none_first : (text : List ℕ) (number : ℕ) (rest : List ℕ) → IsSilentSoFar text number rest → lines_of rest ≡ [] → LacksHeader text Header (number + 1)
none_first text number rest h nothing =
    let all : lines_of text ≡ h.done = h.parts ∙ ap (λ ls. h.done ++ ls) nothing ∙ append-nil h.done in
    (refl, inr (record { silent = ap (list_all is_skipped_line) all ∙ h.silent; behind = omega (arith, h.counted, ap length all) }))

-- a tree has a split less than leaves
pub line_count : (tree : CubeTree) → length (tree_lines tree) + 1 ≡ 2 * leaves tree
line_count leaf = refl
line_count (split v left right) = omega (arith, length-append (tree_lines left) (tree_lines right), line_count left, line_count right)

-- a text has no more lines than bytes, and one
lines_below : (lines : List (List ℕ)) → length lines ≤ line_bytes lines
lines_below [] = omega arith
lines_below (line ∷ lines) = omega (arith, lines_below lines)

pub few_lines : (text : List ℕ) → length (lines_of text) ≤ length text + 1
few_lines text = omega (arith, lines_below (lines_of text), most_bytes text)

within : (lines before after : List (List ℕ)) (line : List ℕ) (place : ℕ) → lines ≡ before ++ line ∷ after → place ≡ length before + 1 → place ≤ length lines
within lines before after line place parts counted = omega (arith, counted, ap length parts ∙ length-append before (line ∷ after))

pub lrat_place : (text : List ℕ) (cause : LratCause) (place : ℕ) → HasLratFault text cause place → place ≤ length text + 1
lrat_place text cause place f = omega (arith, few_lines text, within (lines_of text) f.before f.after f.item place f.parts f.counted)

pub tree_place : (text : List ℕ) (cause : TreeCause) (place : ℕ) → HasTreeFault text cause place → place ≤ length text + 2
tree_place text cause place (inl f) = omega (arith, few_lines text, within (lines_of text) f.before f.after f.item place f.parts f.counted)
tree_place text cause place (inr f) = omega (arith, few_lines text, f.behind)
