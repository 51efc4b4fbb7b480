-- Lines that say something, counted.
use Rattle.std.proofs.Common.{◌≡◌, ◌≢◌, ◌<◌, ◌≤◌, ◌+◌, ℕ, List, [], ◌∷◌, ◌++◌, length, true, false, ap, sym, ◌∙◌, arith, append-nil}
use Rattle.std.proofs.lemmas.List.{length_push}
use Rattle.text_lines.specs.Kept.{kept, is_skipped}
use Rattle.text_lines.specs.Lines.{lines_of}
use Rattle.text_lines.specs.Words.{words_of}
use Rattle.text_lines.proofs.Cutting.KeptLemmas.{kept_append, kept_skipped, kept_more}
use Rattle.text_lines.proofs.ListLemmas.{next_parts}

-- `number` lines were passed, of which `said` say something, and none of these had the place
pub record IsCounted (text : List ℕ) (place number said : ℕ) (rest : List ℕ) : Type 0 where
  pub done : List (List ℕ)
  pub parts : lines_of text ≡ done ++ lines_of rest
  pub counted : number ≡ length done
  pub said_is : said ≡ length (kept done)
  pub few : said ≤ number
  pub under : 1 ≤ place → said < place
  pub behind : number + length rest ≤ length text

-- one more line that says something
one_more : (done : List (List ℕ)) (line : List ℕ) → is_skipped (words_of line) ≡ false → length (kept (done ++ line ∷ [])) ≡ length (kept done) + 1
one_more done line says =
    ap length (kept_append is_skipped done (line ∷ []) ∙ ap (λ l. kept done ++ l) (kept_more is_skipped line [] says)) ∙ length_push (kept done) (words_of line)

module _ (text : List ℕ) (place number said : ℕ) (rest line after : List ℕ) (h : IsCounted text place number said rest) (cut : lines_of rest ≡ line ∷ lines_of after) (shorter : length after < length rest) where
  pub turn_skipped : is_skipped (words_of line) ≡ true → IsCounted text place (number + 1) said after
  turn_skipped skipped = record {
    done = h.done ++ line ∷ [];
    parts = next_parts (lines_of text) h.done line (lines_of rest) (lines_of after) h.parts cut;
    counted = omega (arith, h.counted, length_push h.done line);
    said_is = h.said_is ∙ ap length (sym (kept_append is_skipped h.done (line ∷ []) ∙ ap (λ l. kept h.done ++ l) (kept_skipped is_skipped line [] skipped) ∙ append-nil (kept h.done)));
    few = omega (arith, h.few);
    under = h.under;
    behind = omega (arith, h.behind, shorter);
  }

  pub turn_said : is_skipped (words_of line) ≡ false → said + 1 ≢ place → IsCounted text place (number + 1) (said + 1) after
  turn_said says other = record {
    done = h.done ++ line ∷ [];
    parts = next_parts (lines_of text) h.done line (lines_of rest) (lines_of after) h.parts cut;
    counted = omega (arith, h.counted, length_push h.done line);
    said_is = omega (arith, h.said_is, one_more h.done line says);
    few = omega (arith, h.few);
    under = λ some. omega (arith, h.under some, other);
    behind = omega (arith, h.behind, shorter);
  }
