-- A leaf that is split.
use Rattle.std.proofs.Common.{◌≡◌, ℕ, ◌+◌, ◌-◌, ◌<◌, ◌≤◌, List, [], ◌∷◌, ◌++◌, length, take, drop, get_or, true, cond, refl, ap, sym, ◌∙◌, arith, inl, inr, append_assoc, length-append}
use Rattle.std.specs.Prelude.{◌&&◌, ℤ, pos, neg_ℤ}
use Rattle.std.proofs.lemmas.Bool.{and_parts, and_from, cases_lt, lt-ltb, le-ltb}
use Rattle.std.proofs.lemmas.List.{map-append, length-map, get_or-map, get_or_append_left, get_or-append-add, take_at, drop_at, length_push}
use Rattle.cube_tree.specs.declared.node.Node.{Node}
use Rattle.cube_tree.specs.declared.node.Node.TheVariants.{Leaf, Split}
use Rattle.cube_tree.specs.CubeTree.{CubeTree, leaf, split, depth, leaves, is_variable, splits_variables, IsCubeTree, cubes_of, with_split}
use Rattle.cube_tree.specs.LeafPlace.{IsLeafAt}
use Rattle.cube_tree.specs.Nodes.{nodes_of}
use Rattle.cube_tree.specs.TreeFault.{leaf_count}
use Rattle.cube_tree.proofs.TreeLemmas.{leaf_count-append, leaves_counted, cubes_counted}
use Rattle.cube_tree.proofs.CoverLemmas.{with_first}

-- the leaf is in the left tree, or in the right one
pub split_left : (k v u : ℕ) (left right : CubeTree) → k < leaves left → with_split k v (split u left right) ≡ split u (with_split k v left) right
split_left k v u left right l = ap (λ b. cond b (split u (with_split k v left) right) (split u left (with_split (k - leaves left) v right))) (lt-ltb k (leaves left) l)

pub split_right : (k v u : ℕ) (left right : CubeTree) → leaves left ≤ k → with_split k v (split u left right) ≡ split u left (with_split (k - leaves left) v right)
split_right k v u left right l = ap (λ b. cond b (split u (with_split k v left) right) (split u left (with_split (k - leaves left) v right))) (le-ltb k (leaves left) l)

-- an element of two lists one after the other is in the first, or in the second
pub record InFirst {A : Type 0} (xs ys before : List A) (x : A) (after : List A) : Type 0 where
  pub middle : List A
  pub first : xs ≡ before ++ x ∷ middle
  pub second : after ≡ middle ++ ys

pub record InSecond {A : Type 0} (xs ys before : List A) (x : A) (after : List A) : Type 0 where
  pub middle : List A
  pub first : before ≡ xs ++ middle
  pub second : ys ≡ middle ++ x ∷ after

pub in_first : {A : Type 0} (xs ys before : List A) (x : A) (after : List A) → xs ++ ys ≡ before ++ x ∷ after → length before < length xs → InFirst xs ys before x after
in_first [] ys before x after e l = absurd (omega (arith, l))
in_first (z ∷ xs) ys [] x after e l = record { middle = xs; first = (let head : z ≡ x = cc in ap (λ y. y ∷ xs) head); second = cc }
in_first (z ∷ xs) ys (w ∷ before) x after e l =
    let tails : xs ++ ys ≡ before ++ x ∷ after = cc in
    let heads : z ≡ w = cc in
    let rest = in_first xs ys before x after tails (omega (arith, l)) in
    record { middle = rest.middle; first = (λ i. heads i ∷ rest.first i); second = rest.second }

pub in_second : {A : Type 0} (xs ys before : List A) (x : A) (after : List A) → xs ++ ys ≡ before ++ x ∷ after → length xs ≤ length before → InSecond xs ys before x after
in_second [] ys before x after e l = record { middle = before; first = refl; second = e }
in_second (z ∷ xs) ys [] x after e l = absurd (omega (arith, l))
in_second (z ∷ xs) ys (w ∷ before) x after e l =
    let tails : xs ++ ys ≡ before ++ x ∷ after = cc in
    let heads : w ≡ z = cc in
    let rest = in_second xs ys before x after tails (omega (arith, l)) in
    record { middle = rest.middle; first = (λ i. heads i ∷ rest.first i); second = rest.second }

-- an element of cubes with a first literal
record IsOfCube (z : ℤ) (cubes before : List (List ℤ)) (cube : List ℤ) (after : List (List ℤ)) : Type 0 where
  front : List (List ℤ)
  own : List ℤ
  back : List (List ℤ)
  parts : cubes ≡ front ++ own ∷ back
  front_is : with_first z front ≡ before
  own_is : z ∷ own ≡ cube
  back_is : with_first z back ≡ after

of_cube : (z : ℤ) (cubes before : List (List ℤ)) (cube : List ℤ) (after : List (List ℤ)) → with_first z cubes ≡ before ++ cube ∷ after → IsOfCube z cubes before cube after
of_cube z [] [] cube after e = absurd (cc)
of_cube z [] (x ∷ before) cube after e = absurd (cc)
of_cube z (c ∷ cubes) [] cube after e = record { front = []; own = c; back = cubes; parts = refl; front_is = refl; own_is = cc; back_is = cc }
of_cube z (c ∷ cubes) (x ∷ before) cube after e =
    let tails : with_first z cubes ≡ before ++ cube ∷ after = cc in
    let heads : z ∷ c ≡ x = cc in
    let rest = of_cube z cubes before cube after tails in
    record { front = c ∷ rest.front; own = rest.own; back = rest.back; parts = ap (λ cs. c ∷ cs) rest.parts; front_is = (λ i. heads i ∷ rest.front_is i); own_is = rest.own_is; back_is = rest.back_is }

-- the two cubes of a leaf that is split
abbrev pub both : List ℤ → ℕ → List (List ℤ) → List (List ℤ)
both cube v after = (cube ++ pos v ∷ []) ∷ ((cube ++ neg_ℤ (pos v) ∷ []) ∷ after)

within : (z : ℤ) (cubes new before : List (List ℤ)) (cube : List ℤ) (after : List (List ℤ)) (v : ℕ) (p : IsOfCube z cubes before cube after) →
    new ≡ p.front ++ both p.own v p.back → with_first z new ≡ before ++ both cube v after
within z cubes new before cube after v p e =
    ap (with_first z) e ∙ map-append (λ (c : List ℤ). z ∷ c) p.front (both p.own v p.back) ∙ (λ i. p.front_is i ++ both (p.own_is i) v (p.back_is i))

pub split_cubes : (tree : CubeTree) (v : ℕ) (before : List (List ℤ)) (cube : List ℤ) (after : List (List ℤ)) → cubes_of tree ≡ before ++ cube ∷ after →
    cubes_of (with_split (length before) v tree) ≡ before ++ both cube v after
split_cubes leaf v [] cube after e = (let own : [] ≡ cube = cc in let none : [] ≡ after = cc in λ i. both (own i) v (none i))
split_cubes leaf v (x ∷ []) cube after e = absurd (cc)
split_cubes leaf v (x ∷ (y ∷ before)) cube after e = absurd (cc)
split_cubes (split u left right) v before cube after e =
    let size : length (with_first (pos u) (cubes_of left)) ≡ leaves left = length-map (cubes_of left) (λ (c : List ℤ). pos u ∷ c) ∙ cubes_counted left in
    elim (cases_lt (length before) (leaves left)) [
      | inl h ↦ (
          let f = in_first (with_first (pos u) (cubes_of left)) (with_first (neg_ℤ (pos u)) (cubes_of right)) before cube after e (omega (arith, h, size)) in
          let p = of_cube (pos u) (cubes_of left) before cube f.middle f.first in
          let same : length p.front ≡ length before = sym (length-map p.front (λ (c : List ℤ). pos u ∷ c)) ∙ ap length p.front_is in
          let down : cubes_of (with_split (length before) v left) ≡ p.front ++ both p.own v p.back =
          ap (λ k. cubes_of (with_split k v left)) (sym same) ∙ split_cubes left v p.front p.own p.back p.parts in
          ap cubes_of (split_left (length before) v u left right h)
          ∙ ap (λ cs. cs ++ with_first (neg_ℤ (pos u)) (cubes_of right)) (within (pos u) (cubes_of left) _ before cube f.middle v p down)
          ∙ append_assoc before (both cube v f.middle) (with_first (neg_ℤ (pos u)) (cubes_of right))
          ∙ ap (λ cs. before ++ both cube v cs) (sym f.second))
      | inr h ↦ (
          let s = in_second (with_first (pos u) (cubes_of left)) (with_first (neg_ℤ (pos u)) (cubes_of right)) before cube after e (omega (arith, h, size)) in
          let p = of_cube (neg_ℤ (pos u)) (cubes_of right) s.middle cube after s.second in
          let same : length p.front ≡ length s.middle = sym (length-map p.front (λ (c : List ℤ). neg_ℤ (pos u) ∷ c)) ∙ ap length p.front_is in
          let count : length before ≡ leaves left + length s.middle = ap length s.first ∙ length-append (with_first (pos u) (cubes_of left)) s.middle ∙ ap (λ n. n + length s.middle) size in
          let number : length before - leaves left ≡ length p.front = omega (arith, count, same) in
          let down : cubes_of (with_split (length before - leaves left) v right) ≡ p.front ++ both p.own v p.back =
          ap (λ k. cubes_of (with_split k v right)) number ∙ split_cubes right v p.front p.own p.back p.parts in
          ap cubes_of (split_right (length before) v u left right h)
          ∙ ap (λ cs. with_first (pos u) (cubes_of left) ++ cs) (within (neg_ℤ (pos u)) (cubes_of right) _ s.middle cube after v p down)
          ∙ sym (append_assoc (with_first (pos u) (cubes_of left)) s.middle (both cube v after))
          ∙ ap (λ cs. cs ++ both cube v after) (sym s.first))
    ]

-- the nodes of the tree with a leaf split
abbrev pub split_behind : ℕ → List Node → List Node
split_behind v after = Split v ∷ (Leaf ∷ (Leaf ∷ after))

pub split_nodes : (tree : CubeTree) (v : ℕ) (before after : List Node) → nodes_of tree ≡ before ++ Leaf ∷ after → nodes_of (with_split (leaf_count before) v tree) ≡ before ++ split_behind v after
split_nodes leaf v [] after e = (let none : [] ≡ after = cc in λ i. split_behind v (none i))
split_nodes leaf v (x ∷ []) after e = absurd (cc)
split_nodes leaf v (x ∷ (y ∷ before)) after e = absurd (cc)
split_nodes (split u left right) v [] after e = absurd (let none : Split u ≡ Leaf = cc in cc)
split_nodes (split u left right) v (x ∷ before) after e =
    let tails : nodes_of left ++ nodes_of right ≡ before ++ Leaf ∷ after = cc in
    let head : Split u ≡ x = cc in
    let passed : leaf_count (x ∷ before) ≡ leaf_count before = ap (λ n. leaf_count (n ∷ before)) (sym head) in
    ap (λ k. nodes_of (with_split k v (split u left right))) passed ∙
    elim (cases_lt (length before) (length (nodes_of left))) [
      | inl h ↦ (
          let f = in_first (nodes_of left) (nodes_of right) before Leaf after tails h in
          let count : leaves left ≡ leaf_count before + leaf_count (Leaf ∷ f.middle) = sym (leaves_counted left) ∙ ap leaf_count f.first ∙ leaf_count-append before (Leaf ∷ f.middle) in
          ap nodes_of (split_left (leaf_count before) v u left right (omega (arith, count)))
          ∙ ap (λ ns. Split u ∷ (ns ++ nodes_of right)) (split_nodes left v before f.middle f.first)
          ∙ ap (λ ns. Split u ∷ ns) (append_assoc before (split_behind v f.middle) (nodes_of right) ∙ ap (λ ns. before ++ split_behind v ns) (sym f.second))
          ∙ ap (λ n. n ∷ (before ++ split_behind v after)) head)
      | inr h ↦ (
          let s = in_second (nodes_of left) (nodes_of right) before Leaf after tails h in
          let count : leaf_count before ≡ leaves left + leaf_count s.middle = ap leaf_count s.first ∙ leaf_count-append (nodes_of left) s.middle ∙ ap (λ n. n + leaf_count s.middle) (leaves_counted left) in
          let number : leaf_count before - leaves left ≡ leaf_count s.middle = omega (arith, count) in
          ap nodes_of (split_right (leaf_count before) v u left right (omega (arith, count)))
          ∙ ap (λ k. Split u ∷ (nodes_of left ++ nodes_of (with_split k v right))) number
          ∙ ap (λ ns. Split u ∷ (nodes_of left ++ ns)) (split_nodes right v s.middle after s.second)
          ∙ ap (λ ns. Split u ∷ ns) (sym (append_assoc (nodes_of left) s.middle (split_behind v after)) ∙ ap (λ ns. ns ++ split_behind v after) (sym s.first))
          ∙ ap (λ n. n ∷ (before ++ split_behind v after)) head)
    ]

-- the limits of the tree with a leaf split
split_leaves : (tree : CubeTree) (k v : ℕ) → k < leaves tree → leaves (with_split k v tree) ≡ leaves tree + 1
split_leaves leaf k v l = refl
split_leaves (split u left right) k v l =
    elim (cases_lt k (leaves left)) [
      | inl h ↦ omega (arith, ap leaves (split_left k v u left right h), split_leaves left k v h)
      | inr h ↦ omega (arith, ap leaves (split_right k v u left right h), split_leaves right (k - leaves left) v (omega (arith, h, l)))
    ]

split_variables : (tree : CubeTree) (k v : ℕ) → is_variable v ≡ true → splits_variables tree ≡ true → splits_variables (with_split k v tree) ≡ true
split_variables leaf k v i h = and_from _ _ i refl
split_variables (split u left right) k v i h =
    let parts = and_parts (is_variable u) (splits_variables left && splits_variables right) h in
    let below = and_parts (splits_variables left) (splits_variables right) parts.1 in
    elim (cases_lt k (leaves left)) [
      | inl l ↦ ap splits_variables (split_left k v u left right l) ∙ and_from _ _ parts.0 (and_from _ _ (split_variables left k v i below.0) below.1)
      | inr l ↦ ap splits_variables (split_right k v u left right l) ∙ and_from _ _ parts.0 (and_from _ _ below.0 (split_variables right (k - leaves left) v i below.1))
    ]

cube_length_left : (u k : ℕ) (left right : CubeTree) → k < leaves left → length (get_or (cubes_of (split u left right)) k []) ≡ length (get_or (cubes_of left) k []) + 1
cube_length_left u k left right l =
    let size : length (with_first (pos u) (cubes_of left)) ≡ leaves left = length-map (cubes_of left) (λ (c : List ℤ). pos u ∷ c) ∙ cubes_counted left in
    ap length (get_or_append_left (with_first (pos u) (cubes_of left)) (with_first (neg_ℤ (pos u)) (cubes_of right)) [] k (omega (arith, l, size))
    ∙ get_or-map (λ (c : List ℤ). pos u ∷ c) (cubes_of left) k [] [] (omega (arith, l, cubes_counted left)))
    ∙ omega arith

cube_length_right : (u k : ℕ) (left right : CubeTree) → leaves left ≤ k → k < leaves left + leaves right → length (get_or (cubes_of (split u left right)) k []) ≡ length (get_or (cubes_of right) (k - leaves left) []) + 1
cube_length_right u k left right l m =
    let size : length (with_first (pos u) (cubes_of left)) ≡ leaves left = length-map (cubes_of left) (λ (c : List ℤ). pos u ∷ c) ∙ cubes_counted left in
    let place : k ≡ length (with_first (pos u) (cubes_of left)) + (k - leaves left) = omega (arith, size, l) in
    ap (λ n. length (get_or (cubes_of (split u left right)) n [])) place
    ∙ ap length (get_or-append-add (with_first (pos u) (cubes_of left)) (with_first (neg_ℤ (pos u)) (cubes_of right)) (k - leaves left) []
    ∙ get_or-map (λ (c : List ℤ). neg_ℤ (pos u) ∷ c) (cubes_of right) (k - leaves left) [] [] (omega (arith, l, m, cubes_counted right)))
    ∙ omega arith

split_depth : (tree : CubeTree) (k v n : ℕ) → k < leaves tree → depth tree ≤ n → length (get_or (cubes_of tree) k []) + 1 ≤ n → depth (with_split k v tree) ≤ n
split_depth leaf k v n l d c = omega (arith, c)
split_depth (split u left right) k v n l d c =
    elim (cases_lt k (leaves left)) [
      | inl h ↦ omega (arith, ap depth (split_left k v u left right h), d, split_depth left k v (n - 1) h (omega (arith, d)) (omega (arith, c, cube_length_left u k left right h)))
      | inr h ↦ omega (arith, ap depth (split_right k v u left right h), d, split_depth right (k - leaves left) v (n - 1) (omega (arith, h, l)) (omega (arith, d)) (omega (arith, c, cube_length_right u k left right h l)))
    ]

pub split_within : (tree : CubeTree) (k v : ℕ) → IsCubeTree tree → is_variable v ≡ true → k < leaves tree → leaves tree < 1024 → length (get_or (cubes_of tree) k []) < 20 → IsCubeTree (with_split k v tree)
split_within tree k v h i l few short =
    record {
      shallow = split_depth tree k v 20 l h.shallow (omega (arith, short));
      few = omega (arith, split_leaves tree k v l, few);
      variables = split_variables tree k v i h.variables;
    }

-- the nodes that the code makes are those
pub split_made : (tree : CubeTree) (nodes new : List Node) (k place v : ℕ) → nodes ≡ nodes_of tree → IsLeafAt nodes k place → new ≡ take place nodes ++ split_behind v (drop (place + 1) nodes) →
    new ≡ nodes_of (with_split k v tree)
split_made tree nodes new k place v same p made =
    let front : take place nodes ≡ p.before = ap (take place) p.parts ∙ take_at p.before (Leaf ∷ p.after) place p.placed in
    let back : drop (place + 1) nodes ≡ p.after = ap (drop (place + 1)) (p.parts ∙ sym (append_assoc p.before (Leaf ∷ []) p.after))
    ∙ drop_at (p.before ++ Leaf ∷ []) p.after (place + 1) (length_push p.before Leaf ∙ ap (λ n. n + 1) p.placed) in
    made ∙ (λ i. front i ++ split_behind v (back i)) ∙ sym (split_nodes tree v p.before p.after (sym same ∙ p.parts)) ∙ ap (λ n. nodes_of (with_split n v tree)) p.numbered
