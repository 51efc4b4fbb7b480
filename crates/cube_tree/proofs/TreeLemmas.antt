-- Nodes and their tree.
use Rattle.std.proofs.Common.{◌≡◌, ℕ, zero, suc, ◌+◌, ◌*◌, ◌≤◌, List, [], ◌∷◌, ◌++◌, length, map, Bool, true, refl, ap, sym, ◌∙◌, subst, arith, length-append}
use Rattle.std.specs.Prelude.{◌&&◌, ℤ, pos, neg_ℤ}
use Rattle.std.specs.List.{list_all}
use Rattle.std.proofs.lemmas.Bool.{and_parts, and_from}
use Rattle.std.proofs.lemmas.List.{length-map}
use Rattle.std.proofs.lemmas.List.Folds.{list_all-append}
use Rattle.cube_tree.specs.declared.node.Node.{Node}
use Rattle.cube_tree.specs.declared.node.Node.TheVariants.{Leaf, Split}
use Rattle.cube_tree.specs.CubeTree.{CubeTree, leaf, split, depth, leaves, is_variable, splits_variables, IsCubeTree, cubes_of, full_tree}
use Rattle.cube_tree.specs.Nodes.{nodes_of, tree_of, tree_of_nodes, AreNodes}
use Rattle.cube_tree.specs.TreeFault.{leaf_count}

-- the nodes of a tree within the limits
pub made : (nodes : List Node) (tree : CubeTree) → nodes ≡ nodes_of tree → IsCubeTree tree → AreNodes nodes
made nodes tree e h =
    let same : tree_of nodes ≡ tree = ap tree_of e ∙ tree_of_nodes tree in
    record { whole = e ∙ ap nodes_of (sym same); tree = subst IsCubeTree (sym same) h }

pub made_is : (nodes : List Node) (tree : CubeTree) → nodes ≡ nodes_of tree → tree_of nodes ≡ tree
made_is nodes tree e = ap tree_of e ∙ tree_of_nodes tree

-- leaves among nodes
pub leaf_count-append : (xs ys : List Node) → leaf_count (xs ++ ys) ≡ leaf_count xs + leaf_count ys
leaf_count-append [] ys = omega arith
leaf_count-append (Leaf ∷ xs) ys = omega (arith, leaf_count-append xs ys)
leaf_count-append (Split v ∷ xs) ys = leaf_count-append xs ys

pub leaves_counted : (tree : CubeTree) → leaf_count (nodes_of tree) ≡ leaves tree
leaves_counted leaf = refl
leaves_counted (split v left right) = omega (arith, leaf_count-append (nodes_of left) (nodes_of right), leaves_counted left, leaves_counted right)

-- a tree has a split less than leaves
pub node_count : (tree : CubeTree) → length (nodes_of tree) + 1 ≡ 2 * leaves tree
node_count leaf = refl
node_count (split v left right) = omega (arith, length-append (nodes_of left) (nodes_of right), node_count left, node_count right)

-- the variables of nodes
abbrev pub is_node : Node → Bool
is_node Leaf = true
is_node (Split v) = is_variable v

pub variables_of_nodes : (tree : CubeTree) → list_all is_node (nodes_of tree) ≡ splits_variables tree
variables_of_nodes leaf = refl
variables_of_nodes (split v left right) =
    ap (λ b. is_variable v && b) (list_all-append is_node (nodes_of left) (nodes_of right) ∙ (λ i. variables_of_nodes left i && variables_of_nodes right i))

-- as many cubes as leaves
pub cubes_counted : (tree : CubeTree) → length (cubes_of tree) ≡ leaves tree
cubes_counted leaf = refl
cubes_counted (split v left right) =
    omega (
      arith,
      length-append (map (λ (c : List ℤ). pos v ∷ c) (cubes_of left)) (map (λ (c : List ℤ). neg_ℤ (pos v) ∷ c) (cubes_of right)),
      length-map (cubes_of left) (λ (c : List ℤ). pos v ∷ c),
      length-map (cubes_of right) (λ (c : List ℤ). neg_ℤ (pos v) ∷ c),
      cubes_counted left,
      cubes_counted right,
    )

-- the full tree
pub full_depth : (vs : List ℕ) → depth (full_tree vs) ≡ length vs
full_depth [] = refl
full_depth (v ∷ vs) = omega (arith, full_depth vs)

-- twice as many for each level
abbrev pub most_leaves : ℕ → ℕ
most_leaves zero = 1
most_leaves (suc n) = 2 * most_leaves n

pub full_leaves : (vs : List ℕ) (n : ℕ) → length vs ≤ n → leaves (full_tree vs) ≤ most_leaves n
full_leaves [] zero l = omega arith
full_leaves [] (suc n) l = omega (arith, full_leaves [] n (omega arith))
full_leaves (v ∷ vs) zero l = absurd (omega (arith, l))
full_leaves (v ∷ vs) (suc n) l = omega (arith, full_leaves vs n (omega (arith, l)))

pub full_variables : (vs : List ℕ) → list_all is_variable vs ≡ true → splits_variables (full_tree vs) ≡ true
full_variables [] h = refl
full_variables (v ∷ vs) h =
    let parts = and_parts (is_variable v) (list_all is_variable vs) h in
    let rest = full_variables vs parts.1 in
    and_from _ _ parts.0 (and_from _ _ rest rest)

-- the full tree of ten variables at most is within the limits
pub full_within : (vs : List ℕ) → length vs ≤ 10 → list_all is_variable vs ≡ true → IsCubeTree (full_tree vs)
full_within vs l h = record { shallow = omega (arith, full_depth vs, l); few = full_leaves vs 10 l; variables = full_variables vs h }
