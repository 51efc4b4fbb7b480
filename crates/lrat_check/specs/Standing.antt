-- What the code's answers on the way say.
use Rattle.std.specs.Prelude.{◌≡◌, ℤ, Bool, true, false, List}
use Rattle.lrat_check.specs.Refuted.{negated}
use Rattle.lrat_check.specs.Propagation.{is_tautology, Falsifies, IsUnit, HasTwoUnfalsified}
use Rattle.lrat_check.specs.declared.propagation.ClauseStatus.{ClauseStatus}
use Rattle.lrat_check.specs.declared.propagation.ClauseStatus.TheVariants.{Falsified, Unit, Unfalsified}

-- the clause stands so under these true literals
abbrev pub IsStanding : List ℤ → List ℤ → ClauseStatus → Type 0
IsStanding trues clause Falsified = Falsifies trues clause
IsStanding trues clause (Unit unit) = IsUnit trues clause unit
IsStanding trues clause Unfalsified = HasTwoUnfalsified trues clause

-- the clause is a tautology, or the negations of its literals are true
abbrev pub IsAssumed : List ℤ → List ℤ → Bool → Type 0
IsAssumed clause trues true = is_tautology clause ≡ true
IsAssumed clause trues false = (is_tautology clause ≡ false) × (trues ≡ negated clause)
