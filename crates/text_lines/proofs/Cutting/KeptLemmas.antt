-- Lines that are kept, line by line, for any test of the lines that are skipped.
use Rattle.std.proofs.Common.{◌≡◌, ℕ, List, ◌∷◌, ◌++◌, map, Bool, true, false, cond, not, ap, ◌∙◌}
use Rattle.std.specs.List.{filter}
use Rattle.std.proofs.lemmas.List.{map-append}
use Rattle.std.proofs.lemmas.List.Elements.{filter-append}
use Rattle.text_lines.specs.Kept.{kept_by}
use Rattle.text_lines.specs.Words.{words_of}

pub kept_append : (skips : List (List ℕ) → Bool) (a b : List (List ℕ)) → kept_by skips (a ++ b) ≡ kept_by skips a ++ kept_by skips b
kept_append skips a b = ap (filter (λ words. not (skips words))) (map-append words_of a b) ∙ filter-append (λ words. not (skips words)) (map words_of a) (map words_of b)

pub kept_skipped : (skips : List (List ℕ) → Bool) (line : List ℕ) (rest : List (List ℕ)) → skips (words_of line) ≡ true → kept_by skips (line ∷ rest) ≡ kept_by skips rest
kept_skipped skips line rest h = ap (λ b. cond (not b) (words_of line ∷ kept_by skips rest) (kept_by skips rest)) h

pub kept_more : (skips : List (List ℕ) → Bool) (line : List ℕ) (rest : List (List ℕ)) → skips (words_of line) ≡ false → kept_by skips (line ∷ rest) ≡ words_of line ∷ kept_by skips rest
kept_more skips line rest h = ap (λ b. cond (not b) (words_of line ∷ kept_by skips rest) (kept_by skips rest)) h
