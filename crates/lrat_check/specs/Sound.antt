-- Truth values that satisfy active clauses.
use Rattle.std.specs.Prelude.{◌≡◌, ℕ, ℤ, pos, Bool, true, not, List, Option, Some}
use Rattle.dimacs.specs.Assignment.{makes_some}
use Rattle.lrat_check.specs.Propagation.{has}

-- no literal is 0, which would be its own negation
abbrev pub has_no_zero : List ℤ → Bool
has_no_zero clause = not (has clause (pos 0))

-- no active clause has a literal 0
abbrev pub HaveNoZero : (ℕ → Option (List ℤ)) → Type 0
HaveNoZero active = (id : ℕ) (clause : List ℤ) → active id ≡ Some clause → has_no_zero clause ≡ true

-- these truth values make a literal of each active clause true
abbrev pub Satisfies : (ℕ → Bool) → (ℕ → Option (List ℤ)) → Type 0
Satisfies value active = (id : ℕ) (clause : List ℤ) → active id ≡ Some clause → makes_some value clause ≡ true

-- some truth values do
abbrev pub HasModel : (ℕ → Option (List ℤ)) → Type 0
HasModel active = (value : ℕ → Bool) × Satisfies value active
