-- Where the lines of a section end.
use Rattle.std.proofs.Common.{◌≡◌, ℕ, ◌+◌, ◌<◌, ◌≤◌, List, [], ◌∷◌, ◌++◌, length, take, true, false, refl, ap, sym, ◌∙◌, arith, append_assoc, append-nil}
use Rattle.std.specs.Prelude.{min}
use Rattle.std.specs.List.{list_any}
use Rattle.std.proofs.lemmas.Bool.{or_from}
use Rattle.std.proofs.lemmas.List.{length_push}
use Rattle.std.proofs.lemmas.List.Folds.{list_any-append}
use Rattle.text_lines.specs.Lines.{lines_of}
use Rattle.cube_tree.specs.TreeText.{line_bytes}
use Rattle.cube_tree.proofs.TextLemmas.{line_bytes-append, most_bytes}
use Rattle.certificate.specs.CertRead.{ends, IsSectionCut}
use Rattle.certificate.proofs.CertificateText.LineCutLemmas.{front_lines}

-- the lines that were passed, none of which ends a section
pub record IsPassed (text : List ℕ) (bytes count : ℕ) (rest : List ℕ) : Type 0 where
  pub inside : List (List ℕ)
  pub parts : lines_of text ≡ inside ++ lines_of rest
  pub counted : count ≡ length inside
  pub sized : bytes ≡ line_bytes inside
  pub none : list_any ends inside ≡ false
  pub behind : count + length rest ≤ length text

pub none_passed : (text : List ℕ) → IsPassed text 0 0 text
none_passed text = record { inside = []; parts = refl; counted = refl; sized = refl; none = refl; behind = omega arith }

pub within_text : (text : List ℕ) (bytes count : ℕ) (rest line after : List ℕ) → IsPassed text bytes count rest → lines_of rest ≡ line ∷ lines_of after → bytes + (length line + 1) ≤ length text + 1
within_text text bytes count rest line after h cut =
    omega (arith, h.sized, most_bytes text, ap line_bytes h.parts ∙ line_bytes-append h.inside (lines_of rest), ap line_bytes cut)

pub next_passed : (text : List ℕ) (bytes count : ℕ) (rest line after : List ℕ) → IsPassed text bytes count rest → lines_of rest ≡ line ∷ lines_of after → length after < length rest → ends line ≡ false →
    IsPassed text (bytes + (length line + 1)) (count + 1) after
next_passed text bytes count rest line after h cut shorter no_end = record {
  inside = h.inside ++ line ∷ [];
  parts = h.parts ∙ ap (λ ls. h.inside ++ ls) cut ∙ sym (append_assoc h.inside (line ∷ []) (lines_of after));
  counted = omega (arith, h.counted, length_push h.inside line);
  sized = omega (arith, h.sized, line_bytes-append h.inside (line ∷ []));
  none = list_any-append ends h.inside (line ∷ []) ∙ or_from _ _ h.none (or_from _ false no_end refl);
  behind = omega (arith, h.behind, shorter);
}

pub cut_at_end : (text : List ℕ) (bytes count : ℕ) (rest line after front : List ℕ) → IsPassed text bytes count rest → lines_of rest ≡ line ∷ lines_of after → ends line ≡ true → front ≡ take (min (length text) bytes) text →
    IsSectionCut (lines_of text) (lines_of front) (lines_of rest) count
cut_at_end text bytes count rest line after front h cut last e =
    let front_is : lines_of front ≡ h.inside = ap lines_of e ∙ ap (λ n. lines_of (take (min (length text) n) text)) h.sized ∙ front_lines h.inside (lines_of rest) text h.parts in
    record {
      parts = h.parts ∙ ap (λ ls. ls ++ lines_of rest) (sym front_is);
      counted = h.counted ∙ ap length (sym front_is);
      none = ap (list_any ends) front_is ∙ h.none;
      ended = λ other behind same. (let both : line ∷ lines_of after ≡ other ∷ behind = sym cut ∙ same in let first : line ≡ other = cc in ap ends (sym first) ∙ last);
    }

pub cut_nowhere : (text : List ℕ) (bytes count : ℕ) (rest : List ℕ) → IsPassed text bytes count rest → lines_of rest ≡ [] → IsSectionCut (lines_of text) (lines_of text) (lines_of rest) count
cut_nowhere text bytes count rest h nothing =
    let all : lines_of text ≡ h.inside = h.parts ∙ ap (λ ls. h.inside ++ ls) nothing ∙ append-nil h.inside in
    record {
      parts = sym (append-nil (lines_of text)) ∙ ap (λ ls. lines_of text ++ ls) (sym nothing);
      counted = h.counted ∙ ap length (sym all);
      none = ap (list_any ends) all ∙ h.none;
      ended = λ other behind same. absurd (let both : [] ≡ other ∷ behind = sym nothing ∙ same in cc);
    }
