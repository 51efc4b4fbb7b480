-- The nodes of a tree as they are kept: in preorder.
use Rattle.std.specs.Prelude.{◌≡◌, ℕ, zero, suc, List, [], ◌∷◌, ◌++◌, map, refl}
use Rattle.std.proofs.Common.{ap, sym, ◌∙◌, append_assoc, append-nil}
use Rattle.std.specs.Coded.{Coded, code_by, coded_list, coded_ℕ}
use Rattle.cube_tree.specs.declared.node.Node.{Node}
use Rattle.cube_tree.specs.declared.node.Node.TheVariants.{Leaf, Split}
use Rattle.cube_tree.specs.CubeTree.{CubeTree, leaf, split, IsCubeTree}

-- each node before those below it, left before right
abbrev pub nodes_of : CubeTree → List Node
nodes_of leaf = Leaf ∷ []
nodes_of (split v left right) = Split v ∷ (nodes_of left ++ nodes_of right)

-- two trees joined by a split, where there are two
abbrev pub joined : ℕ → List CubeTree → List CubeTree
joined v (left ∷ (right ∷ trees)) = split v left right ∷ trees
joined v trees = trees

-- the trees that nodes in preorder make up
abbrev pub trees_of : List Node → List CubeTree
trees_of [] = []
trees_of (Leaf ∷ nodes) = leaf ∷ trees_of nodes
trees_of (Split v ∷ nodes) = joined v (trees_of nodes)

abbrev pub first_tree : List CubeTree → CubeTree
first_tree [] = leaf
first_tree (tree ∷ trees) = tree

-- the tree of which these are the nodes
abbrev pub tree_of : List Node → CubeTree
tree_of nodes = first_tree (trees_of nodes)

-- these are the nodes of one tree, which is within the limits
pub record AreNodes (nodes : List Node) : Type 0 where
  pub whole : nodes ≡ nodes_of (tree_of nodes)
  pub tree : IsCubeTree (tree_of nodes)

-- the nodes of a tree, and others after them, make up the tree and what those make up
pub trees_append : (tree : CubeTree) (nodes : List Node) → trees_of (nodes_of tree ++ nodes) ≡ tree ∷ trees_of nodes
trees_append leaf nodes = refl
trees_append (split v left right) nodes =
    ap (λ ns. joined v (trees_of ns)) (append_assoc (nodes_of left) (nodes_of right) nodes)
    ∙ ap (joined v) (trees_append left (nodes_of right ++ nodes) ∙ ap (λ ts. left ∷ ts) (trees_append right nodes))

pub tree_of_nodes : (tree : CubeTree) → tree_of (nodes_of tree) ≡ tree
tree_of_nodes tree = ap (λ ns. first_tree (trees_of ns)) (sym (append-nil (nodes_of tree))) ∙ ap first_tree (trees_append tree [])

-- nodes as numbers
abbrev number_of : Node → ℕ
number_of Leaf = 0
number_of (Split v) = suc v

abbrev of_number : ℕ → Node
of_number zero = Leaf
of_number (suc v) = Split v

pub numbers_back : (nodes : List Node) → map of_number (map number_of nodes) ≡ nodes
numbers_back [] = refl
numbers_back (Leaf ∷ nodes) = ap (λ ns. Leaf ∷ ns) (numbers_back nodes)
numbers_back (Split v ∷ nodes) = ap (λ ns. Split v ∷ ns) (numbers_back nodes)

-- a tree is stored as the numbers of its nodes
abbrev pub tree_code : Coded CubeTree
tree_code =
    code_by (List ℕ) (coded_list coded_ℕ) (λ tree. map number_of (nodes_of tree)) (λ numbers. tree_of (map of_number numbers))
    (λ tree. ap tree_of (numbers_back (nodes_of tree)) ∙ tree_of_nodes tree)
