-- The cubes of a tree before and after a leaf is split.
use Rattle.std.proofs.Common.{◌≡◌, ℕ, zero, suc, ◌<◌, ℤ, pos, neg_ℤ, List, [], ◌∷◌, ◌++◌, length, refl, ◌∙◌, ap, arith}
use Rattle.cube_tree.proofs.SplitLemmas.{split_cubes}
use Rattle.cube_tree.proofs.TreeLemmas.{cubes_counted}
use Rattle.cube_tree.specs.CubeTree.{CubeTree, leaves, cubes_of, with_split}
use Rattle.result_ledger.specs.Ledger.{SplitsCube}

-- the cube at a place, between those before and those after it
pub record At (cubes : List (List ℤ)) (place : ℕ) : Type 0 where
  pub before : List (List ℤ)
  pub cube : List ℤ
  pub after : List (List ℤ)
  pub parts : cubes ≡ before ++ cube ∷ after
  pub counted : place ≡ length before

pub parts_at : (cubes : List (List ℤ)) (place : ℕ) → place < length cubes → At cubes place
parts_at [] place h = absurd (omega arith)
parts_at (x ∷ xs) zero h = record { before = []; cube = x; after = xs; parts = refl; counted = refl }
parts_at (x ∷ xs) (suc place) h =
    let there = parts_at xs place (omega arith) in
    record {
      before = x ∷ there.before;
      cube = there.cube;
      after = there.after;
      parts = ap (λ (ys : List (List ℤ)). x ∷ ys) there.parts;
      counted = ap suc there.counted;
    }

pub splits_cube : (tree : CubeTree) (leaf variable : ℕ) → leaf < leaves tree → SplitsCube leaf (cubes_of tree) (cubes_of (with_split leaf variable tree))
splits_cube tree leaf variable within =
    let there = parts_at (cubes_of tree) leaf (omega (arith, within, cubes_counted tree)) in
    record {
      before = there.before;
      cube = there.cube;
      after = there.after;
      left = there.cube ++ pos variable ∷ [];
      right = there.cube ++ neg_ℤ (pos variable) ∷ [];
      old_is = there.parts;
      new_is = ap (λ (k : ℕ). cubes_of (with_split k variable tree)) there.counted ∙ split_cubes tree variable there.before there.cube there.after there.parts;
      counted = there.counted;
    }
