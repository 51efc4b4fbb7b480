-- A walk over nodes, with the cubes of the nodes that are due.
use Rattle.std.proofs.Common.{◌≡◌, ◌+◌, ◌<◌, ◌≤◌, List, [], ◌∷◌, ◌++◌, length, map, true, refl, ap, sym, ◌∙◌, subst, arith, append_assoc, append-nil, length-append}
use Rattle.std.specs.Prelude.{◌&&◌, ℤ, pos, neg_ℤ}
use Rattle.std.proofs.lemmas.Bool.{and_parts}
use Rattle.std.proofs.lemmas.List.{map-append, map-id}
use Rattle.cube_tree.specs.declared.node.Node.{Node}
use Rattle.cube_tree.specs.declared.node.Node.TheVariants.{Leaf, Split}
use Rattle.cube_tree.specs.CubeTree.{CubeTree, leaf, split, depth, is_variable, splits_variables, IsCubeTree, cubes_of}
use Rattle.cube_tree.specs.Nodes.{nodes_of}
use Rattle.cube_tree.proofs.CoverLemmas.{with_first}

-- the cubes of the leaves among the nodes, where the nodes due have these cubes
abbrev pub walked : List (List ℤ) → List Node → List (List ℤ)
walked due [] = []
walked [] (node ∷ nodes) = []
walked (cube ∷ due) (Leaf ∷ nodes) = cube ∷ walked due nodes
walked (cube ∷ due) (Split v ∷ nodes) = walked ((cube ++ pos v ∷ []) ∷ ((cube ++ neg_ℤ (pos v) ∷ []) ∷ due)) nodes

-- no cube grows past 20 literals, and there is one for each node
abbrev pub HasRoom : List (List ℤ) → List Node → Type 0
HasRoom due [] = Unit {0}
HasRoom [] (node ∷ nodes) = ⊥
HasRoom (cube ∷ due) (Leaf ∷ nodes) = HasRoom due nodes
HasRoom (cube ∷ due) (Split v ∷ nodes) = (length cube < 20) × (is_variable v ≡ true) × HasRoom ((cube ++ pos v ∷ []) ∷ ((cube ++ neg_ℤ (pos v) ∷ []) ∷ due)) nodes

abbrev behind : List ℤ → List (List ℤ) → List (List ℤ)
behind cube cubes = map (λ (c : List ℤ). cube ++ c) cubes

shifted : (cube : List ℤ) (z : ℤ) (cubes : List (List ℤ)) → behind (cube ++ z ∷ []) cubes ≡ behind cube (with_first z cubes)
shifted cube z [] = refl
shifted cube z (c ∷ cubes) = (λ i. append_assoc cube (z ∷ []) c i ∷ shifted cube z cubes i)

pub walked_tree : (tree : CubeTree) (cube : List ℤ) (due : List (List ℤ)) (nodes : List Node) → walked (cube ∷ due) (nodes_of tree ++ nodes) ≡ behind cube (cubes_of tree) ++ walked due nodes
walked_tree leaf cube due nodes = ap (λ c. c ∷ walked due nodes) (sym (append-nil cube))
walked_tree (split v left right) cube due nodes =
    let low = (cube ++ neg_ℤ (pos v) ∷ []) ∷ due in
    ap (walked ((cube ++ pos v ∷ []) ∷ ((cube ++ neg_ℤ (pos v) ∷ []) ∷ due))) (append_assoc (nodes_of left) (nodes_of right) nodes)
    ∙ walked_tree left (cube ++ pos v ∷ []) ((cube ++ neg_ℤ (pos v) ∷ []) ∷ due) (nodes_of right ++ nodes)
    ∙ ap (λ cs. behind (cube ++ pos v ∷ []) (cubes_of left) ++ cs) (walked_tree right (cube ++ neg_ℤ (pos v) ∷ []) due nodes)
    ∙ (λ i. shifted cube (pos v) (cubes_of left) i ++ (shifted cube (neg_ℤ (pos v)) (cubes_of right) i ++ walked due nodes))
    ∙ sym (append_assoc (behind cube (with_first (pos v) (cubes_of left))) (behind cube (with_first (neg_ℤ (pos v)) (cubes_of right))) (walked due nodes))
    ∙ ap (λ cs. cs ++ walked due nodes) (sym (map-append (λ (c : List ℤ). cube ++ c) (with_first (pos v) (cubes_of left)) (with_first (neg_ℤ (pos v)) (cubes_of right))))

room_tree : (tree : CubeTree) (cube : List ℤ) (due : List (List ℤ)) (nodes : List Node) → length cube + depth tree ≤ 20 → splits_variables tree ≡ true → HasRoom due nodes → HasRoom (cube ∷ due) (nodes_of tree ++ nodes)
room_tree leaf cube due nodes l h room = room
room_tree (split v left right) cube due nodes l h room =
    let parts = and_parts (is_variable v) (splits_variables left && splits_variables right) h in
    let below = and_parts (splits_variables left) (splits_variables right) parts.1 in
    let rest = room_tree right (cube ++ neg_ℤ (pos v) ∷ []) due nodes (omega (arith, l, length-append cube (neg_ℤ (pos v) ∷ []))) below.1 room in
    let all = room_tree left (cube ++ pos v ∷ []) ((cube ++ neg_ℤ (pos v) ∷ []) ∷ due) (nodes_of right ++ nodes) (omega (arith, l, length-append cube (pos v ∷ []))) below.0 rest in
    (omega (arith, l), parts.0, subst (λ (ns : List Node). HasRoom ((cube ++ pos v ∷ []) ∷ ((cube ++ neg_ℤ (pos v) ∷ []) ∷ due)) ns) (sym (append_assoc (nodes_of left) (nodes_of right) nodes)) all)

-- the walk so far
pub record IsWalk (tree : CubeTree) (cubes due : List (List ℤ)) (rest : List Node) : Type 0 where
  pub made : cubes ++ walked due rest ≡ cubes_of tree
  pub room : HasRoom due rest

pub at_root : (tree : CubeTree) (nodes : List Node) → nodes ≡ nodes_of tree → IsCubeTree tree → IsWalk tree [] ([] ∷ []) nodes
at_root tree nodes e h =
    let whole : nodes_of tree ++ [] ≡ nodes = append-nil (nodes_of tree) ∙ sym e in
    record {
      made = ap (walked ([] ∷ [])) (sym whole) ∙ walked_tree tree [] [] [] ∙ append-nil (behind [] (cubes_of tree)) ∙ map-id (cubes_of tree);
      room = subst (λ (ns : List Node). HasRoom ([] ∷ []) ns) whole (room_tree tree [] [] [] (omega (arith, h.shallow)) h.variables tt);
    }
