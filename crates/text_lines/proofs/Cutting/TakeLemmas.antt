-- The first words of a line, one word after another.
use Rattle.std.proofs.Common.{◌≡◌, ℕ, ◌-◌, ◌<◌, ◌≤◌, List, [], ◌∷◌, ◌++◌, length, take, ap, sym, ◌∙◌, arith, append_assoc, length-append, suc}
use Rattle.text_lines.specs.Words.{words_of}

-- the words so far, and as many of the rest as are still wanted, are the first words of the line
pub record AreFirstWords (most : ℕ) (line : List ℕ) (words : List (List ℕ)) (rest : List ℕ) : Type 0 where
  pub few : length words ≤ most
  pub parts : words ++ take (most - length words) (words_of rest) ≡ take most (words_of line)

take_suc : (n m : ℕ) (w : List ℕ) (ws : List (List ℕ)) → n ≡ suc m → take n (w ∷ ws) ≡ w ∷ take m ws
take_suc n m w ws e = ap (λ k. take k (w ∷ ws)) e

pub one_more_word : (most : ℕ) (line rest after word : List ℕ) (words : List (List ℕ)) → AreFirstWords most line words rest → length words < most → words_of rest ≡ word ∷ words_of after → AreFirstWords most line (words ++ word ∷ []) after
one_more_word most line rest after word words so_far l e = record {
  few = omega (arith, length-append words (word ∷ []), l);
  parts =
      append_assoc words (word ∷ []) (take (most - length (words ++ word ∷ [])) (words_of after))
      ∙ ap (λ t. words ++ t) (sym (ap (take (most - length words)) e ∙ take_suc (most - length words) (most - length (words ++ word ∷ [])) word (words_of after) (omega (arith, length-append words (word ∷ []), l))))
      ∙ so_far.parts;
}
