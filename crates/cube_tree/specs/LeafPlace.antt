-- Where a leaf stands among nodes.
use Rattle.std.specs.Prelude.{◌≡◌, ℕ, List, ◌∷◌, ◌++◌, length}
use Rattle.cube_tree.specs.declared.node.Node.{Node}
use Rattle.cube_tree.specs.declared.node.Node.TheVariants.{Leaf}
use Rattle.cube_tree.specs.TreeFault.{leaf_count}

-- the node at this place is the leaf of this number, both counted from 0
pub record IsLeafAt (nodes : List Node) (k place : ℕ) : Type 0 where
  pub before : List Node
  pub after : List Node
  pub parts : nodes ≡ before ++ Leaf ∷ after
  pub placed : length before ≡ place
  pub numbered : leaf_count before ≡ k
