-- Tests and their negations, beyond what the standard library has.
use Rattle.std.proofs.Common.{◌≡◌, Bool, true, false, not, ◌&&◌, ◌||◌, refl, sym, cond}
use Rattle.std.specs.Prelude.{Option, None}

pub not_not : (b : Bool) → not (not b) ≡ b
not_not true = refl
not_not false = refl

-- two tests of which each gives the other
pub same_truth : (a b : Bool) → (a ≡ true → b ≡ true) → (b ≡ true → a ≡ true) → a ≡ b
same_truth true b f g = sym (f refl)
same_truth false true f g = g refl
same_truth false false f g = refl

pub or_last : (a b : Bool) → (a || b) ≡ (b || (a || false))
or_last true true = refl
or_last true false = refl
or_last false true = refl
or_last false false = refl

-- not one without the other
pub never_without : (a b : Bool) → (a && not b) ≡ false → a ≡ true → b ≡ true
never_without true true h k = refl
never_without true false h k = absurd (cc)
never_without false b h k = absurd (cc)

-- what is hidden or not there is not there
pub hidden_none : {A : Type 0} (b : Bool) (o : Option A) → o ≡ None → cond b None o ≡ None
hidden_none true o h = refl
hidden_none false o h = h
