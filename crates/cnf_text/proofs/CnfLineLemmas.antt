-- The lines of a formula's text, one after another.
use Rattle.std.proofs.Common.{◌≡◌, ℕ, suc, ◌+◌, ◌<◌, ◌≤◌, List, [], ◌∷◌, length, take, true, false, not, cond, ap, ◌∙◌, arith}
use Rattle.std.specs.List.{filter, before_first, position_or_len, prefix_len}
use Rattle.text_lines.specs.Kept.{is_dimacs_skipped}
use Rattle.text_lines.specs.Words.{words_of}
use Rattle.cnf_text.specs.CnfLines.{is_end, numbered, said_from, end_from}

before_no : (line : List ℕ) (lines : List (List ℕ)) → is_end line ≡ false → before_first is_end (line ∷ lines) ≡ line ∷ before_first is_end lines
before_no line lines h =
    let more : position_or_len is_end (line ∷ lines) ≡ suc (position_or_len is_end lines) =
    ap (λ b. cond (not b) (1 + prefix_len (λ y. not (is_end y)) lines) 0) h ∙ omega arith in
    ap (λ k. take k (line ∷ lines)) more

-- the text ends later
pub end_later : (n : ℕ) (line : List ℕ) (lines : List (List ℕ)) → is_end line ≡ false → end_from n (line ∷ lines) ≡ end_from (n + 1) lines
end_later n line lines h = omega (arith, ap length (before_no line lines h))

said_on : (n : ℕ) (line : List ℕ) (lines : List (List ℕ)) → is_end line ≡ false → said_from n (line ∷ lines) ≡ cond (not (is_dimacs_skipped (words_of line))) ((n, words_of line) ∷ said_from (n + 1) lines) (said_from (n + 1) lines)
said_on n line lines h = ap (λ before. filter (λ (l : ℕ × List (List ℕ)). not (is_dimacs_skipped l.1)) (numbered n before)) (before_no line lines h)

pub skipped_said : (n : ℕ) (line : List ℕ) (lines : List (List ℕ)) → is_end line ≡ false → is_dimacs_skipped (words_of line) ≡ true → said_from n (line ∷ lines) ≡ said_from (n + 1) lines
skipped_said n line lines h silent = said_on n line lines h ∙ ap (λ b. cond (not b) ((n, words_of line) ∷ said_from (n + 1) lines) (said_from (n + 1) lines)) silent

pub more_said : (n : ℕ) (line : List ℕ) (lines : List (List ℕ)) → is_end line ≡ false → is_dimacs_skipped (words_of line) ≡ false → said_from n (line ∷ lines) ≡ (n, words_of line) ∷ said_from (n + 1) lines
more_said n line lines h said = said_on n line lines h ∙ ap (λ b. cond (not b) ((n, words_of line) ∷ said_from (n + 1) lines) (said_from (n + 1) lines)) said

-- what a reader has passed over
pub record IsPassed (all : List (List ℕ)) (first : ℕ) (text_length : ℕ) (lines : List (List ℕ)) (number : ℕ) (rest_length : ℕ) : Type 0 where
  pub said : said_from first all ≡ said_from number lines
  pub end : end_from first all ≡ end_from number lines
  pub behind : number + rest_length ≤ first + text_length
  pub shorter : rest_length ≤ text_length

pub pass : (all : List (List ℕ)) (first text_length number rest_length : ℕ) (lines : List (List ℕ)) (line : List ℕ) (after : List (List ℕ)) (after_length : ℕ) → IsPassed all first text_length lines number rest_length →
    lines ≡ line ∷ after → after_length < rest_length → is_end line ≡ false → is_dimacs_skipped (words_of line) ≡ true → IsPassed all first text_length after (number + 1) after_length
pass all first text_length number rest_length lines line after after_length p cut shorter goes_on silent = record {
  said = p.said ∙ ap (said_from number) cut ∙ skipped_said number line after goes_on silent;
  end = p.end ∙ ap (end_from number) cut ∙ end_later number line after goes_on;
  behind = omega (arith, p.behind, shorter);
  shorter = omega (arith, p.shorter, shorter);
}

pub stop : (all : List (List ℕ)) (first text_length number rest_length : ℕ) (lines : List (List ℕ)) (line : List ℕ) (after : List (List ℕ)) (after_length : ℕ) → IsPassed all first text_length lines number rest_length →
    lines ≡ line ∷ after → after_length < rest_length → is_end line ≡ false → is_dimacs_skipped (words_of line) ≡ false →
    (said_from first all ≡ (number, words_of line) ∷ said_from (number + 1) after) × (end_from first all ≡ end_from (number + 1) after) × (after_length < text_length) × (number + 1 + after_length ≤ first + text_length)
stop all first text_length number rest_length lines line after after_length p cut shorter goes_on said = (
  p.said ∙ ap (said_from number) cut ∙ more_said number line after goes_on said,
  p.end ∙ ap (end_from number) cut ∙ end_later number line after goes_on,
  omega (arith, p.shorter, shorter),
  omega (arith, p.behind, shorter),
)
