-- What justifies a clause, and what is wrong with hints that do not.
use Rattle.std.specs.Prelude.{◌≡◌, ◌≢◌, ◌⊎◌, ℕ, ℤ, true, false, List, Option}
use Rattle.lrat_check.specs.Hints.{first_hints, groups_of}
use Rattle.lrat_check.specs.Propagation.{is_tautology}
use Rattle.lrat_check.specs.Rat.{Reaches, IsRat, IsNoRat}
use Rattle.lrat_check.specs.Refuted.{Refutes, FailsToRefute, negated}
use Rattle.lrat_check.specs.declared.refusal.StepFault.{StepFault}
use Rattle.lrat_check.specs.declared.refusal.StepFault.TheVariants.{NoConflict}

-- the clause follows: it is a tautology, or the first hints refute that all of its literals are false
abbrev pub IsImplied : (ℕ → Option (List ℤ)) → List ℤ → List ℤ → Type 0
IsImplied active clause hints = (is_tautology clause ≡ true) ⊎ Refutes active (negated clause) (first_hints hints)

-- the clause follows, or the first hints lead to no conflict, and the groups after them show that it may be added
abbrev pub IsJustified : (ℕ → Option (List ℤ)) → List ℤ → List ℤ → Type 0
IsJustified active clause hints =
    IsImplied active clause hints ⊎ ((reached : List ℤ) × Reaches active (negated clause) (first_hints hints) reached × IsRat active clause (groups_of hints) reached)

-- the clause is not justified, and this is why
abbrev pub IsUnjustified : (ℕ → Option (List ℤ)) → List ℤ → List ℤ → StepFault → Type 0
IsUnjustified active clause hints fault =
    (is_tautology clause ≡ false)
    × ((FailsToRefute active (negated clause) (first_hints hints) fault × (fault ≢ NoConflict))
    ⊎ ((reached : List ℤ) × Reaches active (negated clause) (first_hints hints) reached × IsNoRat active clause (groups_of hints) reached fault))
