-- Digits are neither blanks nor line feeds.
use Rattle.std.proofs.Common.{◌≡◌, ℕ, ◌<◌, ◌≤◌, List, [], ◌∷◌, Bool, true, false, eqb, refl, arith}
use Rattle.std.specs.Char.{is_ascii_digit}
use Rattle.std.specs.List.{list_all, list_any}
use Rattle.std.proofs.lemmas.Bool.{and_parts, leb-true, or_from}
use Rattle.std.proofs.lemmas.Bool.Decides.{nat_tests}
use Rattle.text_lines.specs.Lines.{is_line_feed}
use Rattle.text_lines.specs.Words.{is_blank}

-- what no digit is does not stand among digits
pub none_in_digits : (q : ℕ → Bool) → ((x : ℕ) → is_ascii_digit x ≡ true → q x ≡ false) → (ds : List ℕ) → list_all is_ascii_digit ds ≡ true → list_any q ds ≡ false
none_in_digits q apart [] h = refl
none_in_digits q apart (d ∷ ds) h =
    let parts = and_parts (is_ascii_digit d) (list_all is_ascii_digit ds) h in
    or_from (q d) (list_any q ds) (apart d parts.0) (none_in_digits q apart ds parts.1)

digit_from : (x : ℕ) → is_ascii_digit x ≡ true → 48 ≤ x
digit_from x h = leb-true 48 x (and_parts _ _ h).0

no_byte : (b x : ℕ) → b < 48 → 48 ≤ x → eqb x b ≡ false
no_byte b x l h = grind (arith, nat_tests)

pub digit_no_feed : (x : ℕ) → is_ascii_digit x ≡ true → is_line_feed x ≡ false
digit_no_feed x h = no_byte 10 x (omega arith) (digit_from x h)

pub digit_no_blank : (x : ℕ) → is_ascii_digit x ≡ true → is_blank x ≡ false
digit_no_blank x h =
    let low = digit_from x h in
    or_from _ _ (or_from _ _ (no_byte 32 x (omega arith) low) (no_byte 9 x (omega arith) low)) (no_byte 13 x (omega arith) low)
