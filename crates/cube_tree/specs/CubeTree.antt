-- Split trees and the cubes of their leaves.
use Rattle.std.specs.Prelude.{ℕ, ◌+◌, ◌-◌, ◌≤◌, max, ℤ, pos, neg_ℤ, Bool, true, IsTrue, ◌&&◌, nat_le, nat_lt, List, [], ◌∷◌, ◌++◌, map, if◌then◌else◌}
use Rattle.dimacs.specs.Literal.{most_variable}

-- a tree is a leaf, or it splits a variable: in the left tree the variable is true, in the right tree it is false
pub data CubeTree : Type 0 where
  leaf : CubeTree
  split : ℕ → CubeTree → CubeTree → CubeTree

-- how many splits stand above the deepest leaf
abbrev pub depth : CubeTree → ℕ
depth leaf = 0
depth (split v left right) = max (depth left) (depth right) + 1

-- how many leaves there are
abbrev pub leaves : CubeTree → ℕ
leaves leaf = 1
leaves (split v left right) = leaves left + leaves right

-- the number of a variable
abbrev pub is_variable : ℕ → Bool
is_variable v = nat_le 1 v && nat_le v most_variable

-- whether each split is of a variable
abbrev pub splits_variables : CubeTree → Bool
splits_variables leaf = true
splits_variables (split v left right) = is_variable v && (splits_variables left && splits_variables right)

-- a tree of variables within the two limits
pub record IsCubeTree (tree : CubeTree) : Type 0 where
  pub shallow : depth tree ≤ 20
  pub few : leaves tree ≤ 1024
  pub variables : IsTrue (splits_variables tree)

-- The cube of each leaf, from left to right: its literals from the root, a variable to the left and its negation to the right.
abbrev pub cubes_of : CubeTree → List (List ℤ)
cubes_of leaf = [] ∷ []
cubes_of (split v left right) = map (λ cube. pos v ∷ cube) (cubes_of left) ++ map (λ cube. neg_ℤ (pos v) ∷ cube) (cubes_of right)

-- the full tree: each of its splits at depth k is of the variable at place k of the list, from 0
abbrev pub full_tree : List ℕ → CubeTree
full_tree [] = leaf
full_tree (v ∷ variables) = split v (full_tree variables) (full_tree variables)

-- the tree with the leaf of this number, counted from 0 and from left to right, split on a variable
abbrev pub with_split : ℕ → ℕ → CubeTree → CubeTree
with_split k variable leaf = split variable leaf leaf
with_split k variable (split v left right) =
    if nat_lt k (leaves left) then split v (with_split k variable left) right else split v left (with_split (k - leaves left) variable right)
