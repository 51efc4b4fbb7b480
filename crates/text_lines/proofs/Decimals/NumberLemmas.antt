-- The value of digits, one digit at a time.
use Rattle.std.proofs.Common.{◌≡◌, ℕ, ◌+◌, ◌-◌, ◌*◌, ◌^◌, ◌<◌, ◌≤◌, List, [], ◌∷◌, ◌++◌, inl, inr, length, take, drop, get_or, true, cond, refl, ap, sym, ◌∙◌, arith, ltb, leb, take-append-drop}
use Rattle.std.specs.Prelude.{Some, None}
use Rattle.std.specs.Char.{digit_value, is_ascii_digit}
use Rattle.std.specs.List.{list_all}
use Rattle.std.specs.Str.Parse.{digits_value, digits_value_after}
use Rattle.std.proofs.lemmas.Bool.Decides.{nat_tests}
use Rattle.std.proofs.lemmas.Bool.{and_parts, and_from, cases_lt, cond_below, leb-true, ltb-true}
use Rattle.std.proofs.lemmas.Option.{cond_some}
use Rattle.std.proofs.lemmas.Int.Digits.{digits_value_more}
use Rattle.std.proofs.lemmas.List.{take_all, length-take}
use Rattle.std.proofs.lemmas.List.Folds.{list_all_more}
use Rattle.std.proofs.lemmas.Str.Parse.{digits_value_short}
use Rattle.text_lines.proofs.Decimals.PlainLemmas.{own}

pub value_grows : (n : ℕ) (ds : List ℕ) → n ≤ digits_value_after 10 n ds
value_grows n [] = omega arith
value_grows n (d ∷ ds) = omega (arith, value_grows (n * 10 + digit_value d) ds)

pub value_after_parts : (n : ℕ) (xs ys : List ℕ) → digits_value_after 10 n (xs ++ ys) ≡ digits_value_after 10 (digits_value_after 10 n xs) ys
value_after_parts n [] ys = refl
value_after_parts n (x ∷ xs) ys = value_after_parts (n * 10 + digit_value x) xs ys

-- a prefix of the digits has no larger value
pub value_front : (ds : List ℕ) (i : ℕ) → digits_value 10 (take i ds) ≤ digits_value 10 ds
value_front ds i =
    let parts : digits_value 10 ds ≡ digits_value_after 10 (digits_value 10 (take i ds)) (drop i ds) =
    ap (digits_value 10) (sym (take-append-drop i ds)) ∙ value_after_parts 0 (take i ds) (drop i ds) in
    omega (arith, parts, value_grows (digits_value 10 (take i ds)) (drop i ds))

-- one more digit
pub value_more : (ds : List ℕ) (i value : ℕ) → i < length ds → value ≡ digits_value 10 (take i ds) → value * 10 + digit_value (get_or ds i 0) ≡ digits_value 10 (take (i + 1) ds)
value_more ds i value l e = omega (arith, digits_value_more 10 ds i l, e)

not_below : (a b m : ℕ) → None ≡ cond (ltb a m) (Some b) None → m ≤ a
not_below a b m e =
    elim (cases_lt a m) [
      | inl h ↦ absurd (let none : None ≡ Some b = e ∙ sym (cond_below a m (Some b) None h) in cc)
      | inr h ↦ h
    ]

pub too_large : (m : ℕ) (ds : List ℕ) (i value : ℕ) → i < length ds → value ≡ digits_value 10 (take i ds) →
    None ≡ cond (ltb (value * 10 + digit_value (get_or ds i 0)) m) (Some (value * 10 + digit_value (get_or ds i 0))) None → None ≡ cond (ltb (digits_value 10 ds) m) (Some (digits_value 10 ds)) None
too_large m ds i value l e none =
    let least : m ≤ digits_value 10 ds = omega (arith, not_below _ _ m none, value_more ds i value l e, value_front ds (i + 1)) in
    grind (arith, nat_tests)

-- what the loop keeps
pub record IsValueSoFar (m : ℕ) (ds : List ℕ) (i value : ℕ) : Type 0 where
  pub is : value ≡ digits_value 10 (take i ds)
  pub small : value < m

pub one_more : (m : ℕ) (ds : List ℕ) (i value next : ℕ) → i < length ds → IsValueSoFar m ds i value →
    Some next ≡ cond (ltb (value * 10 + digit_value (get_or ds i 0)) m) (Some (value * 10 + digit_value (get_or ds i 0))) None → IsValueSoFar m ds (i + 1) next
one_more m ds i value next l so_far e =
    let found = cond_some (ltb (value * 10 + digit_value (get_or ds i 0)) m) (value * 10 + digit_value (get_or ds i 0)) next (sym e) in
    let below = ltb-true _ _ found.0 in
    record { is = omega (arith, found.1, value_more ds i value l so_far.is); small = omega (arith, found.1, below) }

pub within : (m : ℕ) (ds : List ℕ) (i value : ℕ) → length ds ≤ i → IsValueSoFar m ds i value → Some value ≡ cond (ltb (digits_value 10 ds) m) (Some (digits_value 10 ds)) None
within m ds i value l so_far =
    let whole : value ≡ digits_value 10 ds = so_far.is ∙ ap (digits_value 10) (take_all i ds l) in
    ap Some whole ∙ cond_below (digits_value 10 ds) m (Some (digits_value 10 ds)) None (omega (arith, so_far.small, whole))

-- a digit's value as the code computes it
digit_minus : (d : ℕ) → is_ascii_digit d ≡ true → digit_value d ≡ d - 48
digit_minus d h =
    let parts = and_parts (leb 48 d) (leb d 57) h in
    let low : 48 ≤ d = leb-true 48 d parts.0 in
    let high : d ≤ 57 = leb-true d 57 parts.1 in
    grind (arith, nat_tests, low, high)

-- what the loop over at most 19 bytes keeps: one more digit leaves the value below 2^64
pub record AreFewDigits (ds : List ℕ) (i value : ℕ) : Type 0 where
  pub digits : list_all is_ascii_digit (take i ds) ≡ true
  pub is : value ≡ digits_value 10 (take i ds)
  pub small : i ≤ 18 → value < 10 ^ 18

few_value : (ds : List ℕ) (i value : ℕ) → list_all is_ascii_digit (take i ds) ≡ true → value ≡ digits_value 10 (take i ds) → i ≤ 18 → value < 10 ^ 18
few_value ds i value d e l =
    let short : length (take i ds) ≤ 18 = grind (arith, length-take i ds, l) in
    let small : digits_value 10 (take i ds) < 10 ^ 18 = digits_value_short own (take i ds) 18 d short in
    omega (arith, e, small)

pub one_more_digit : (ds : List ℕ) (i value : ℕ) → i < length ds → AreFewDigits ds i value → is_ascii_digit (get_or ds i 0) ≡ true → AreFewDigits ds (i + 1) (value * 10 + (get_or ds i 0 - 48))
one_more_digit ds i value l so_far digit =
    let digits : list_all is_ascii_digit (take (i + 1) ds) ≡ true = list_all_more is_ascii_digit ds i 0 l ∙ and_from _ _ so_far.digits digit in
    let is : value * 10 + (get_or ds i 0 - 48) ≡ digits_value 10 (take (i + 1) ds) = ap (λ d. value * 10 + d) (sym (digit_minus (get_or ds i 0) digit)) ∙ value_more ds i value l so_far.is in
    record { digits = digits; is = is; small = few_value ds (i + 1) _ digits is }
