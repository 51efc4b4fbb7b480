-- The leaves of a tree in pieces.
use Rattle.std.specs.Prelude.{◌⊎◌, ℕ, ◌*◌, ◌<◌, ◌≤◌, List, min}
use Rattle.std.specs.List.{AllPairs, Contains}

-- where a piece begins, by the size of pieces and the number of leaves
abbrev pub piece_start : ℕ → ℕ → ℕ → ℕ
piece_start size count piece = min (piece * size) count

-- these are the leaves from this one on and before that one that do not have it, rising
pub record AreWithoutBetween (Has : ℕ → Type 0) (from end : ℕ) (leaves : List ℕ) : Type 0 where
  pub rising : AllPairs (λ x y. x < y) leaves
  pub each : (leaf : ℕ) → Contains leaves leaf → (from ≤ leaf) × (leaf < end) × (Has leaf → ⊥)
  pub every : (leaf : ℕ) → from ≤ leaf → leaf < end → Has leaf ⊎ Contains leaves leaf
