-- The text of a variable in a place of fixed size.
use Rattle.std.proofs.Common.{Bor, ◌≡◌, ℕ, map, get_or, zero, suc, ℤ, pos, negsuc, neg_ℤ, nat_abs, true, refl, ◌+◌, ◌<◌, ◌≤◌, List, [], ◌∷◌, ◌++◌, length, take, set, sym, ap, ◌∙◌, arith}
use Rattle.std.specs.Fmt.{decimal}
use Rattle.std.specs.Int.{is_positive}
use Rattle.std.specs.List.{range_with_len}
use Rattle.std.specs.Prelude.{Option, Some, None, IfSome}
use Rattle.std.specs.Slice.{IsItemAt}
use Rattle.dimacs.specs.CnfText.{literal_text, variable_text}
use Rattle.std.proofs.lemmas.Fmt.{length-decimal-le}
use Rattle.std.proofs.lemmas.List.{length-take-le, take-take, take_more_set}
use Rattle.std.proofs.lemmas.List.FromFn.{get_or-map-range_with_len}

-- a variable of at most six digits and a space take at most eight bytes
pub short_text : (bytes line : List ℕ) (n end : ℕ) → n < 1000000 → take end line ≡ decimal n → end ≤ 8 → length line ≡ 16 → bytes ≡ take 8 (set line end 32) → (end + 1 ≤ 8) × (take (end + 1) bytes ≡ decimal n ++ 32 ∷ [])
short_text bytes line n end small written low whole e =
    let count : length (take end line) ≡ end = length-take-le end line (omega (arith, low, whole)) in
    let digits : length (decimal n) ≤ 6 = length-decimal-le 6 n (omega arith) small (omega (arith, small)) in
    let same : end ≡ length (decimal n) = sym count ∙ ap length written in
    let short : end + 1 ≤ 8 = omega (arith, digits, same) in
    (short, ap (take (end + 1)) e ∙ take-take (end + 1) 8 (set line end 32) short ∙ take_more_set line end 32 (omega (arith, low, whole)) ∙ ap (λ d. d ++ 32 ∷ []) written)

-- a positive literal has the text of its variable, and the opposite one a hyphen before it
pub positive_text : (z : ℤ) → is_positive z ≡ true → literal_text z ≡ variable_text (nat_abs z)
positive_text (pos n) h = refl
positive_text (negsuc n) h = absurd (cc)

pub opposite_text : (z : ℤ) → is_positive z ≡ true → literal_text (neg_ℤ z) ≡ 45 ∷ variable_text (nat_abs z)
opposite_text (pos zero) h = absurd (cc)
opposite_text (pos (suc n)) h = refl
opposite_text (negsuc n) h = absurd (cc)

-- what a table of such texts lends under a variable is its text
pub text_at : (r : Option (Bor (List ℕ))) (texts : List (List ℕ)) (variable : ℕ) → texts ≡ map variable_text (range_with_len 0 (length texts)) → IsItemAt texts variable r → IfSome r (λ text. text.now ≡ variable_text variable)
text_at None texts variable are found = tt
text_at (Some text) texts variable are found =
    found.3.1 [] ∙ ap (λ l. get_or l variable []) are ∙ get_or-map-range_with_len variable_text 0 (length texts) variable variable [] found.3.0 (omega arith)
