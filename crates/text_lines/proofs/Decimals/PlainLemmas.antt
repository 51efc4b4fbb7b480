-- A plain number is what `decimal` writes of its value.
use Rattle.std.proofs.Common.{◌≡◌, ℕ, ◌^◌, ◌<◌, List, [], ◌∷◌, length, drop, get_or, true, not, ◌||◌, eqb, ap, sym, ◌∙◌, subst, arith, rules, inl, inr, ◌↔◌}
use Rattle.std.specs.Prelude.{Some, None}
use Rattle.std.specs.List.{list_all}
use Rattle.std.specs.Char.{is_ascii_digit}
use Rattle.std.specs.Fmt.{decimal}
use Rattle.std.specs.Str.Parse.{digits_value}
use Rattle.std.proofs.lemmas.Bool.{and_parts, and_from, or_cases, eqb-true, eqb-false, not-true, not_from_false, cond-true, or_right, cases_eq, ne_eqb}
use Rattle.std.proofs.lemmas.Option.{cond_some}
use Rattle.std.proofs.lemmas.Fmt.{decimal-digits_value, decimal_is_IsNumeral, decimal_digit, first_decimal}
use Rattle.std.proofs.lemmas.Str.Parse.{IsNumeralModel, IsDigitsTest, numerals_by_value}
use Rattle.text_lines.specs.Numbers.{is_digits, is_plain, plain_number}
use Rattle.text_lines.specs.Words.{is_empty}

abbrev pub AreDigits : List ℕ → Type 0
AreDigits ds = list_all is_ascii_digit ds ≡ true

pub tells_digits : IsDigitsTest AreDigits
tells_digits = search rules

pub own : IsNumeralModel AreDigits (digits_value 10)
own = numerals_by_value AreDigits tells_digits

pub not_empty : (word : List ℕ) → not (is_empty word) ≡ true → 0 < length word
not_empty word h =
    let apart : (length word ≡ 0) → ⊥ = eqb-false (length word) 0 (not-true _ h) in omega (arith, apart)

one_digit : (word : List ℕ) → (is_empty (drop 1 word) || not (eqb (get_or word 0 0) 48)) ≡ true → 0 < length word → get_or word 0 0 ≡ 48 → length word ≡ 1
one_digit [] e l z = absurd (omega (arith, l))
one_digit (x ∷ xs) e l z =
    elim (or_cases _ _ e) [
      | inl none ↦ (let empty : length xs ≡ 0 = eqb-true (length xs) 0 none in omega (arith, empty))
      | inr other ↦ absurd (eqb-false x 48 (not-true _ other) z)
    ]

-- the value's digits are the word
pub plain_is_decimal : (word : List ℕ) (n : ℕ) → n < 2 ^ 64 → plain_number word ≡ Some n → word ≡ decimal n
plain_is_decimal word n small e =
    let found = cond_some (is_plain word) (digits_value 10 word) n e in
    let parts = and_parts (is_digits word) (is_empty (drop 1 word) || not (eqb (get_or word 0 0) 48)) found.0 in
    let digits = and_parts (not (is_empty word)) (list_all is_ascii_digit word) parts.0 in
    let some : 0 < length word = not_empty word digits.0 in
    let below : digits_value 10 word < 2 ^ 64 = subst (λ (k : ℕ). k < 2 ^ 64) (sym found.1) small in
    sym (decimal-digits_value own word digits.1 some (one_digit word parts.1 some) below) ∙ ap decimal found.1

filled : (word : List ℕ) → 0 < length word → not (is_empty word) ≡ true
filled [] l = absurd (omega (arith, l))
filled (x ∷ xs) l = not_from_false (is_empty (x ∷ xs)) (ne_eqb (length (x ∷ xs)) 0 (λ h. omega (arith, h)))

starts_plain : (n : ℕ) → n < 2 ^ 64 → (is_empty (drop 1 (decimal n)) || not (eqb (get_or (decimal n) 0 0) 48)) ≡ true
starts_plain n small =
    elim (cases_eq n 0) [
      | inl zero ↦ (let word : decimal n ≡ 48 ∷ [] = ap decimal zero ∙ decimal_digit 0 (omega arith) in ap (λ (w : List ℕ). is_empty (drop 1 w) || not (eqb (get_or w 0 0) 48)) word)
      | inr more ↦ (let first = first_decimal n (omega (arith, more)) small in or_right _ _ (not_from_false (eqb (get_or (decimal n) 0 0) 48) (ne_eqb (get_or (decimal n) 0 0) 48 (λ h. omega (arith, first, h)))))
    ]

-- a number's digits are plain, and their value is the number
pub decimal_is_plain : (n : ℕ) → n < 2 ^ 64 → plain_number (decimal n) ≡ Some n
decimal_is_plain n small =
    let numeral = decimal_is_IsNumeral n small in
    let digits : is_digits (decimal n) ≡ true = and_from _ _ (filled (decimal n) numeral.0.0) (own.from (decimal n) numeral.0.1) in
    cond-true (is_plain (decimal n)) (Some (digits_value 10 (decimal n))) None (and_from _ _ digits (starts_plain n small)) ∙ ap Some numeral.1

pub plain_exactly : (word : List ℕ) (n : ℕ) → n < 2 ^ 64 → (plain_number word ≡ Some n) ↔ (word ≡ decimal n)
plain_exactly word n small = (plain_is_decimal word n small, λ e. ap plain_number e ∙ decimal_is_plain n small)
