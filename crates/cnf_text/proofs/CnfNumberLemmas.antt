-- What a word says as a number.
use Rattle.std.proofs.Common.{◌≡◌, ℕ, zero, suc, ◌<◌, ◌≤◌, ◌⊎◌, List, Bool, true, false, not, cond, refl, ap, sym, ◌∙◌, arith, inl, inr, eqb}
use Rattle.std.specs.Prelude.{Option, Some, None, ℤ, pos, negsuc, nat_abs, nat_lt, nat_le, ◌&&◌, ◌==◌}
use Rattle.std.specs.Str.Parse.{digits_value}
use Rattle.std.proofs.lemmas.Bool.{and_parts, and_from, cond-false, eq-eqb, and_right}
use Rattle.std.proofs.lemmas.Bool.Decides.{nat_tests}
use Rattle.std.proofs.lemmas.Option.{cond_some, none-some}
use Rattle.text_lines.specs.Numbers.{is_digits, has_minus, digits_after_sign, is_solver_number, solver_number}
use Rattle.text_lines.proofs.Decimals.SolverLemmas.{HasParts, read_number}
use Rattle.cnf_text.specs.CnfReading.{is_zero, number_fault}
use Rattle.dimacs.specs.Literal.{is_literal_up_to}
use Rattle.cnf_text.specs.declared.cnf_fault.CnfCause.{CnfCause}
use Rattle.cnf_text.specs.declared.cnf_fault.CnfCause.TheVariants.{BadNumber, VariableTooLarge}

-- the absolute value that the word writes
abbrev pub size : List ℕ → ℕ
size word = digits_value 10 (digits_after_sign word)

both_apart : (a b : Bool) → not (a && b) ≡ true → a ≡ true → b ≡ true → ⊥
both_apart true true h e f = absurd (cc)
both_apart true false h e f = absurd (cc)
both_apart false b h e f = absurd (cc)

-- a solver number has a sign and a size
pub parts_of : (word : List ℕ) → is_solver_number word ≡ true → HasParts word (has_minus word) (size word)
parts_of word h =
    let both = and_parts (is_digits (digits_after_sign word)) (not (has_minus word && (size word == 0))) h in
    read_number word (has_minus word) refl both.0 (λ minus zero_size. both_apart (has_minus word) (size word == 0) both.1 minus (eq-eqb (size word) 0 zero_size))

-- a word that writes a number is one, of the number's size
pub is_one : (word : List ℕ) (z : ℤ) → solver_number word ≡ Some z → is_solver_number word ≡ true
is_one word z e = (cond_some (is_solver_number word) _ z e).0

pub same_size : (word : List ℕ) (z : ℤ) → solver_number word ≡ Some z → size word ≡ nat_abs z
same_size word z e =
    let p = parts_of word (is_one word z e) in
    let same : Some p.number ≡ Some z = sym p.is ∙ e in
    let number : p.number ≡ z = cc in
    sym p.size ∙ ap nat_abs number

-- 0 is no literal and has no fault
pub zero_is_zero : (line : ℕ) (word : List ℕ) → solver_number word ≡ Some (pos 0) → is_zero (line, word) ≡ true
zero_is_zero line word e = and_from _ _ (is_one word (pos 0) e) (eq-eqb (size word) 0 (same_size word (pos 0) e))

not_below : (n m : ℕ) → m ≤ n → nat_lt n m ≡ false
not_below n m h = grind (arith, nat_tests)

pub small_clear : (variables : ℕ) (word : List ℕ) (z : ℤ) → solver_number word ≡ Some z → nat_abs z ≤ variables → number_fault variables word ≡ None
small_clear variables word z e small =
    cond-false (not (is_solver_number word)) (Some BadNumber) (cond (nat_lt variables (size word)) (Some VariableTooLarge) None) (ap not (is_one word z e))
    ∙ cond-false (nat_lt variables (size word)) (Some VariableTooLarge) None (not_below variables (size word) (omega (arith, small, same_size word z e)))

-- the size of a literal
pub literal_size : (variables : ℕ) (z : ℤ) → is_literal_up_to variables z ≡ true → (0 < nat_abs z) × (nat_abs z ≤ variables)
literal_size variables z h =
    let both = and_parts (nat_lt 0 (nat_abs z)) (nat_le (nat_abs z) variables) h in
    (grind (arith, nat_tests, both.0), grind (arith, nat_tests, both.1))

apart_eqb : (n : ℕ) → 0 < n → eqb n 0 ≡ false
apart_eqb n h = grind (arith, nat_tests)

pub literal_is_no_zero : (variables line : ℕ) (word : List ℕ) (z : ℤ) → solver_number word ≡ Some z → is_literal_up_to variables z ≡ true → is_zero (line, word) ≡ false
literal_is_no_zero variables line word z e h =
    and_right (is_solver_number word) (eqb (size word) 0) (apart_eqb (size word) (omega (arith, same_size word z e, (literal_size variables z h).0)))

-- a word without a fault writes 0 or a literal
abbrev pub SaysNumber : ℕ → List ℕ → Type 0
SaysNumber variables word = (solver_number word ≡ Some (pos 0)) ⊎ ((z : ℤ) × (solver_number word ≡ Some z) × (is_literal_up_to variables z ≡ true))

is_lt : (n m : ℕ) → n < m → nat_lt n m ≡ true
is_lt n m h = grind (arith, nat_tests)

pub is_le : (n m : ℕ) → n ≤ m → nat_le n m ≡ true
is_le n m h = grind (arith, nat_tests)

literal_from : (variables : ℕ) (z : ℤ) → 0 < nat_abs z → nat_abs z ≤ variables → is_literal_up_to variables z ≡ true
literal_from variables z some small = and_from (nat_lt 0 (nat_abs z)) (nat_le (nat_abs z) variables) (is_lt 0 (nat_abs z) some) (is_le (nat_abs z) variables small)

zero_or_literal : (variables : ℕ) (word : List ℕ) (z : ℤ) → solver_number word ≡ Some z → nat_abs z ≤ variables → SaysNumber variables word
zero_or_literal variables word (pos zero) e small = inl e
zero_or_literal variables word (pos (suc n)) e small = inr (pos (suc n), e, literal_from variables (pos (suc n)) (omega arith) small)
zero_or_literal variables word (negsuc n) e small = inr (negsuc n, e, literal_from variables (negsuc n) (omega arith) small)

below : (n m : ℕ) → nat_lt n m ≡ false → m ≤ n
below n m h = grind (arith, nat_tests)

no_bad_number : (o : Option CnfCause) (b : Bool) → cond (not b) (Some BadNumber) o ≡ None → (b ≡ true) × (o ≡ None)
no_bad_number o true h = (refl, h)
no_bad_number o false h = absurd (none-some BadNumber (sym h))

not_too_large : (b : Bool) → cond b (Some VariableTooLarge) None ≡ None → b ≡ false
not_too_large true h = absurd (none-some VariableTooLarge (sym h))
not_too_large false h = refl

pub clear_says : (variables : ℕ) (word : List ℕ) → number_fault variables word ≡ None → SaysNumber variables word
clear_says variables word h =
    let number = no_bad_number (cond (nat_lt variables (size word)) (Some VariableTooLarge) None) (is_solver_number word) h in
    let small = below variables (size word) (not_too_large (nat_lt variables (size word)) number.1) in
    let p = parts_of word number.0 in
    zero_or_literal variables word p.number p.is (omega (arith, p.size, small))
