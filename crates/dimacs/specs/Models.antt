-- Models of a list of clauses (DIMACS).
use Rattle.std.specs.Prelude.{◌≡◌, ℕ, ◌+◌, ℤ, Bool, true, IsTrue, IsFalse, List, ◌∷◌, ◌++◌, length}
use Rattle.std.specs.List.{list_all}
use Rattle.dimacs.specs.Assignment.{makes_some, makes_all}

-- each clause has a literal that these truth values make true
abbrev pub IsModel : (ℕ → Bool) → List (List ℤ) → Type 0
IsModel value clauses = IsTrue (list_all (makes_some value) clauses)

-- no model of the clauses makes all literals of the cube true
abbrev pub HasNoModelIn : List (List ℤ) → List ℤ → Type 0
HasNoModelIn clauses cube = (value : ℕ → Bool) → IsModel value clauses → makes_all value cube ≡ true → ⊥

-- the clause at this place, counted from 1, has no true literal, and each clause before it has one
pub record IsFirstFalse (value : ℕ → Bool) (clauses : List (List ℤ)) (place : ℕ) : Type 0 where
  pub before : List (List ℤ)
  pub clause : List ℤ
  pub after : List (List ℤ)
  pub parts : clauses ≡ before ++ clause ∷ after
  pub counted : place ≡ length before + 1
  pub untrue : IsFalse (makes_some value clause)
  pub first : IsModel value before
