-- Cubes that cover.
use Rattle.std.specs.Prelude.{◌≡◌, ℕ, ℤ, Bool, IsTrue, IsFalse, List, ◌∷◌, ◌++◌}
use Rattle.std.specs.List.{list_any}
use Rattle.dimacs.specs.Assignment.{makes_all}

-- these truth values make all literals of one of the cubes true, and of no other
pub record MeetsOne (value : ℕ → Bool) (cubes : List (List ℤ)) : Type 0 where
  pub before : List (List ℤ)
  pub cube : List ℤ
  pub after : List (List ℤ)
  pub parts : cubes ≡ before ++ cube ∷ after
  pub met : IsTrue (makes_all value cube)
  pub none_before : IsFalse (list_any (makes_all value) before)
  pub none_after : IsFalse (list_any (makes_all value) after)

-- whatever the truth values are
abbrev pub Covers : List (List ℤ) → Type 0
Covers cubes = (value : ℕ → Bool) → MeetsOne value cubes
