-- Solver numbers, by their sign and their digits.
use Rattle.std.proofs.Common.{◌≡◌, ◌≢◌, ℕ, zero, suc, ◌^◌, List, Bool, true, false, not, ◌&&◌, drop, refl, ap, sym, ◌∙◌, eqb}
use Rattle.std.specs.Prelude.{Option, Some, None, ℤ, pos, neg_ℤ, nat_abs, nat_lt, if◌then◌else◌, ◌==◌}
use Rattle.std.specs.Int.{is_negative}
use Rattle.std.specs.Option.{option_eq}
use Rattle.text_lines.specs.declared.numbers.SolverNumber.{SolverNumber}
use Rattle.text_lines.specs.SolverNumber.{IsNumber}
use Rattle.std.specs.Str.Parse.{digits_value}
use Rattle.std.proofs.lemmas.Bool.{ne_eqb}
use Rattle.text_lines.specs.Numbers.{is_digits, has_minus, digits_after_sign, is_solver_number, solver_number}
use Rattle.text_lines.proofs.Decimals.IntegerLemmas.{not_negative}

-- a solver number of this sign and this absolute value
pub record HasParts (word : List ℕ) (minus : Bool) (absolute : ℕ) : Type 0 where
  pub number : ℤ
  pub is : solver_number word ≡ Some number
  pub sign : is_negative number ≡ minus
  pub size : nat_abs number ≡ absolute

-- the sign as it is, the digits as they are
pub chosen : (word : List ℕ) (minus : Bool) → has_minus word ≡ minus → is_digits (digits_after_sign word) ≡ true → (minus && (digits_value 10 (digits_after_sign word) == 0)) ≡ false →
    solver_number word ≡ Some (if minus then neg_ℤ (pos (digits_value 10 (drop 1 word))) else pos (digits_value 10 word))
chosen word minus e digits some =
    let good : is_solver_number word ≡ true = (λ i. digits i && not (e i && (digits_value 10 (digits_after_sign word) == 0))) ∙ ap not some in
    ap (λ b. if b then Some (if has_minus word then neg_ℤ (pos (digits_value 10 (drop 1 word))) else pos (digits_value 10 word)) else None) good
    ∙ ap (λ b. Some (if b then neg_ℤ (pos (digits_value 10 (drop 1 word))) else pos (digits_value 10 word))) e

after_sign : (word : List ℕ) (minus : Bool) → has_minus word ≡ minus → digits_after_sign word ≡ (if minus then drop 1 word else word)
after_sign word minus e = ap (λ b. if b then drop 1 word else word) e

-- below zero
negative : (n : ℕ) → n ≢ 0 → (is_negative (neg_ℤ (pos n)) ≡ true) × (nat_abs (neg_ℤ (pos n)) ≡ n)
negative zero apart = absurd (apart refl)
negative (suc k) apart = (refl, refl)

pub read_number : (word : List ℕ) (minus : Bool) → has_minus word ≡ minus → is_digits (digits_after_sign word) ≡ true → (minus ≡ true → digits_value 10 (digits_after_sign word) ≢ 0) → HasParts word minus (digits_value 10 (digits_after_sign word))
read_number word true e digits some =
    let n = negative (digits_value 10 (drop 1 word)) (λ z. some refl (ap (digits_value 10) (after_sign word true e) ∙ z)) in
    record {
      number = neg_ℤ (pos (digits_value 10 (drop 1 word)));
      is = chosen word true e digits (ne_eqb (digits_value 10 (digits_after_sign word)) 0 (some refl));
      sign = n.0;
      size = n.1 ∙ sym (ap (digits_value 10) (after_sign word true e));
    }
read_number word false e digits some = record {
  number = pos (digits_value 10 word);
  is = chosen word false e digits refl;
  sign = not_negative (digits_value 10 word);
  size = sym (ap (digits_value 10) (after_sign word false e));
}

-- the digits' value where it is below 2^64
abbrev pub kept_value : ℕ → Option ℕ
kept_value n = if nat_lt n (2 ^ 64) then Some n else None

pub is_number : (word : List ℕ) (minus : Bool) (n : SolverNumber) → HasParts word minus (digits_value 10 (digits_after_sign word)) → n.is_negative ≡ minus → n.magnitude ≡ kept_value (digits_value 10 (digits_after_sign word)) →
    (z : ℤ) × (solver_number word ≡ Some z) × IsNumber z n
is_number word minus n parts s m = (parts.number, parts.is, record { sign = s ∙ sym parts.sign; absolute = m ∙ ap kept_value (sym parts.size) })

-- a value that is not kept as zero is not zero
pub not_zero : (n : ℕ) (kept : Option ℕ) → kept ≡ kept_value n → option_eq eqb kept (Some 0) ≡ false → n ≢ 0
not_zero n kept e apart z =
    let same : true ≡ false = ap (λ k. option_eq eqb k (Some 0)) (sym (e ∙ ap kept_value z)) ∙ apart in cc
