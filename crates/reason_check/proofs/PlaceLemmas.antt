-- Lines of a derivation's text that are counted in its certificate.
use Rattle.std.proofs.Common.{◌≡◌, ◌≤◌, ◌<◌, ◌+◌, ◌^◌, ℕ, List, [], ◌∷◌, ◌++◌, ap, ◌∙◌, subst, length, length-append, arith}
use Rattle.std.specs.List.{slice_split}
use Rattle.std.proofs.lemmas.List.Splits.{length-slice_split}
use Rattle.std.proofs.lemmas.List.Sums.{count_by-le-length}
use Rattle.text_lines.specs.Fault.{IsRefusal}
use Rattle.text_lines.specs.Lines.{is_line_feed, lines_of, without_empty_end}
use Rattle.text_lines.specs.declared.fault.PlacedFault.{PlacedFault}
use Rattle.text_lines.specs.declared.fault.PlacedFault.TheVariants.{At}
use Rattle.lrat_check.specs.LratFaults.{HasLratFault}
use Rattle.lrat_check.specs.declared.lrat_fault.LratCause.{LratCause}

-- a text has one line more than bytes at most
fewer : (pieces : List (List ℕ)) → length (without_empty_end pieces) ≤ length pieces
fewer [] = omega arith
fewer ([] ∷ []) = omega arith
fewer ([] ∷ (piece ∷ pieces)) = omega (arith, fewer (piece ∷ pieces))
fewer ((byte ∷ bytes) ∷ pieces) = omega (arith, fewer pieces)

few_lines : (text : List ℕ) → length (lines_of text) ≤ length text + 1
few_lines text = omega (arith, fewer (slice_split is_line_feed text), length-slice_split is_line_feed text, count_by-le-length is_line_feed text)

within : (lines before after : List (List ℕ)) (line : List ℕ) (place : ℕ) → lines ≡ before ++ line ∷ after → place ≡ length before + 1 → place ≤ length lines
within lines before after line place parts counted = omega (arith, counted, ap length parts ∙ length-append before (line ∷ after))

-- so the place of a line is a number that the code can have
pub place_fits : (text : List ℕ) (before : ℕ) → before + length text < 2 ^ 63 → (fault : PlacedFault LratCause) → IsRefusal (HasLratFault text) fault → (cause : LratCause) (line : ℕ) → fault ≡ At cause line → before + line < 2 ^ 64
place_fits text before short fault refused cause line same =
    let f : HasLratFault text cause line = subst (λ (other : PlacedFault LratCause). IsRefusal (HasLratFault text) other) same refused in
    omega (arith, short, few_lines text, within (lines_of text) f.before f.after f.item line f.parts f.counted)
