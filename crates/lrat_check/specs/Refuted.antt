-- Unit propagation along hints, and what is wrong with hints that do not lead to a conflict.
use Rattle.std.specs.Prelude.{◌≡◌, ◌⊎◌, ℕ, ℤ, neg_ℤ, List, [], ◌∷◌, ◌++◌, map, Option, Some, None}
use Rattle.lrat_check.specs.Propagation.{Falsifies, IsUnit, HasTwoUnfalsified}
use Rattle.lrat_check.specs.declared.refusal.StepFault.{StepFault}
use Rattle.lrat_check.specs.declared.refusal.StepFault.TheVariants.{UnknownHint, NotUnit, NoConflict}

-- The hints refute that all of these literals are true: the first hint's clause is active, and it is false, or it is unit
-- and the other hints refute that its literal is true too.
abbrev pub Refutes : (ℕ → Option (List ℤ)) → List ℤ → List ℕ → Type 0
Refutes active trues [] = ⊥
Refutes active trues (hint ∷ hints) =
    (clause : List ℤ) × (active hint ≡ Some clause) × (Falsifies trues clause ⊎ ((unit : ℤ) × IsUnit trues clause unit × Refutes active (trues ++ unit ∷ []) hints))

-- the negation of each literal
abbrev pub negated : List ℤ → List ℤ
negated clause = map neg_ℤ clause

-- The hints do not refute that all of these literals are true, and this is why: a hint is unknown or its clause has two
-- literals that are not false, where all hints before it are unit, or all hints are.
abbrev pub FailsToRefute : (ℕ → Option (List ℤ)) → List ℤ → List ℕ → StepFault → Type 0
FailsToRefute active trues [] fault = fault ≡ NoConflict
FailsToRefute active trues (hint ∷ hints) fault =
    ((active hint ≡ None) × (fault ≡ UnknownHint))
    ⊎ ((clause : List ℤ) × (active hint ≡ Some clause) × ((HasTwoUnfalsified trues clause × (fault ≡ NotUnit)) ⊎ ((unit : ℤ) × IsUnit trues clause unit × FailsToRefute active (trues ++ unit ∷ []) hints fault)))
