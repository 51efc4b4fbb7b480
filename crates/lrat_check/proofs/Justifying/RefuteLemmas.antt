-- Hints, one after the other.
use Rattle.std.proofs.Common.{◌≡◌, ◌≢◌, ℕ, ◌+◌, ◌<◌, false, List, [], ◌∷◌, ◌++◌, length, drop, drop-cons, get_or, add-one, refl, ap, sym, ◌∙◌, subst, inl, inr}
use Rattle.std.specs.Prelude.{ℤ, pos, negsuc, nat_abs, Option, Some}
use Rattle.std.specs.Int.{is_negative}
use Rattle.std.proofs.lemmas.Bool.{true≢false}
use Rattle.lrat_check.specs.Hints.{first_hints}
use Rattle.lrat_check.specs.Rat.{Reaches}
use Rattle.lrat_check.specs.Refuted.{Refutes, FailsToRefute}
use Rattle.lrat_check.specs.Propagation.{IsUnit, HasTwoUnfalsified}
use Rattle.lrat_check.specs.declared.refusal.StepFault.{StepFault}
use Rattle.lrat_check.specs.declared.refusal.StepFault.TheVariants.{NotUnit, NoConflict}

-- what the hints that are left do, all do
pub record IsOnTheWay (active : ℕ → Option (List ℤ)) (first : List ℤ) (hints : List ℕ) (trues : List ℤ) (left : List ℕ) : Type 0 where
  pub refutes : Refutes active trues left → Refutes active first hints
  pub fails : (fault : StepFault) → FailsToRefute active trues left fault → FailsToRefute active first hints fault
  pub reaches : (reached : List ℤ) → Reaches active trues left reached → Reaches active first hints reached

-- the next hint's clause is unit
pub on_unit : (active : ℕ → Option (List ℤ)) (first : List ℤ) (hints : List ℕ) (trues : List ℤ) (left : List ℕ) (hint : ℕ) (rest : List ℕ) (clause : List ℤ) (unit : ℤ) →
    IsOnTheWay active first hints trues left → left ≡ hint ∷ rest → active hint ≡ Some clause → IsUnit trues clause unit → IsOnTheWay active first hints (trues ++ unit ∷ []) rest
on_unit active first hints trues left hint rest clause unit h e known is = record {
  refutes = λ later. h.refutes (subst (λ (l : List ℕ). Refutes active trues l) (sym e) (clause, known, inr (unit, is, later)));
  fails = λ fault later. h.fails fault (subst (λ (l : List ℕ). FailsToRefute active trues l fault) (sym e) (inr (clause, known, inr (unit, is, later))));
  reaches = λ reached later. h.reaches reached (subst (λ (l : List ℕ). Reaches active trues l reached) (sym e) (clause, known, (unit, is, later)));
}

not_unit : NotUnit ≢ NoConflict
not_unit e = absurd (cc)

pub on_two : (active : ℕ → Option (List ℤ)) (first : List ℤ) (hints : List ℕ) (trues : List ℤ) (left : List ℕ) (hint : ℕ) (rest : List ℕ) (clause : List ℤ) →
    IsOnTheWay active first hints trues left → left ≡ hint ∷ rest → active hint ≡ Some clause → HasTwoUnfalsified trues clause → FailsToRefute active first hints NotUnit × (NotUnit ≢ NoConflict)
on_two active first hints trues left hint rest clause h e known is =
    (h.fails NotUnit (subst (λ (l : List ℕ). FailsToRefute active trues l NotUnit) (sym e) (inr (clause, known, inl (is, refl)))), not_unit)

-- a hint that is the id of a clause
id_first : (z : ℤ) (rest : List ℤ) → is_negative z ≡ false → first_hints (z ∷ rest) ≡ nat_abs z ∷ first_hints rest
id_first (pos n) rest h = refl
id_first (negsuc n) rest h = absurd (true≢false h)

pub id_next : (hints : List ℤ) (i id : ℕ) → i < length hints → is_negative (get_or hints i (pos 0)) ≡ false → id ≡ nat_abs (get_or hints i (pos 0)) →
    first_hints (drop i hints) ≡ id ∷ first_hints (drop (i + 1) hints)
id_next hints i id h plain e =
    let z = get_or hints i (pos 0) in
    ap first_hints (drop-cons hints i (pos 0) h ∙ (λ j. z ∷ drop (sym (add-one i) j) hints)) ∙ id_first z (drop (i + 1) hints) plain ∙ ap (λ n. n ∷ first_hints (drop (i + 1) hints)) (sym e)
