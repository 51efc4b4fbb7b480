-- Integers: their sign and the test whether two are the same.
use Rattle.std.proofs.Common.{◌≡◌, ℕ, zero, suc, true, false, refl, arith}
use Rattle.std.specs.Prelude.{ℤ, pos, negsuc, neg_ℤ}
use Rattle.std.specs.Int.{is_negative}
use Rattle.std.specs.Ordering.{int_eq}
use Rattle.std.proofs.lemmas.Bool.{false_from_ne_true}
use Rattle.std.proofs.lemmas.Bool.Decides.{Decides-int_eq, nat_tests}
use Rattle.std.proofs.lemmas.Int.{ints}

pub same_integer : (z : ℤ) → int_eq z z ≡ true
same_integer z = (Decides-int_eq z z).1 refl

pub other_integer : (x y : ℤ) → ¬ (x ≡ y) → int_eq x y ≡ false
other_integer x y apart = false_from_ne_true _ (λ h. apart ((Decides-int_eq x y).0 h))

pub twice_negated : (z : ℤ) → neg_ℤ (neg_ℤ z) ≡ z
twice_negated (pos zero) = refl
twice_negated (pos (suc n)) = refl
twice_negated (negsuc n) = refl

pub not_negative : (n : ℕ) → is_negative (pos n) ≡ false
not_negative n = grind (arith, ints, nat_tests)
