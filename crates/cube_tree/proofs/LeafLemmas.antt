-- The leaf of a number, and why it is not split.
use Rattle.std.proofs.Common.{◌≡◌, ℕ, suc, ◌+◌, ◌<◌, ◌≤◌, List, [], ◌∷◌, ◌++◌, length, take, drop, get_or, Bool, true, false, cond, leb, refl, ap, sym, ◌∙◌, arith}
use Rattle.std.specs.Prelude.{Option, Some, None}
use Rattle.std.proofs.Math.Seq.{drop-cons}
use Rattle.std.proofs.lemmas.Bool.{le-leb, lt-leb, leb-false}
use Rattle.std.proofs.lemmas.List.{take-append-drop, length-take, take_more}
use Rattle.std.proofs.lemmas.Option.{none-some}
use Rattle.cube_tree.specs.declared.node.Node.{Node}
use Rattle.cube_tree.specs.declared.node.Node.TheVariants.{Leaf, Split}
use Rattle.cube_tree.specs.declared.split_fault.SplitCause.{SplitCause}
use Rattle.cube_tree.specs.declared.split_fault.SplitCause.TheVariants.{NoSuchLeaf, TooManyLeaves, TooDeep}
use Rattle.cube_tree.specs.CubeTree.{CubeTree, leaves, cubes_of}
use Rattle.cube_tree.specs.LeafPlace.{IsLeafAt}
use Rattle.cube_tree.specs.SplitFault.{split_fault}
use Rattle.cube_tree.specs.TreeFault.{leaf_count}
use Rattle.cube_tree.proofs.TreeLemmas.{leaf_count-append}

-- an element, with what stands before it and after it
cut_at : (nodes : List Node) (place : ℕ) → place < length nodes → nodes ≡ take place nodes ++ get_or nodes place Leaf ∷ drop (place + 1) nodes
cut_at nodes place l =
    sym (take-append-drop place nodes)
    ∙ ap (λ ns. take place nodes ++ ns) (drop-cons nodes place Leaf l ∙ ap (λ n. get_or nodes place Leaf ∷ drop n nodes) (let e : suc place ≡ place + 1 = omega arith in e))

pub leaf_at : (nodes : List Node) (place k passed : ℕ) → get_or nodes place Leaf ≡ Leaf → place < length nodes → passed ≡ leaf_count (take place nodes) → passed ≡ k → IsLeafAt nodes k place
leaf_at nodes place k passed is l counted e =
    record {
      before = take place nodes;
      after = drop (place + 1) nodes;
      parts = cut_at nodes place l ∙ ap (λ n. take place nodes ++ n ∷ drop (place + 1) nodes) is;
      placed = omega (arith, length-take place nodes, l);
      numbered = sym counted ∙ e;
    }

one_more : (nodes : List Node) (place : ℕ) → place < length nodes → take (place + 1) nodes ≡ take place nodes ++ get_or nodes place Leaf ∷ []
one_more nodes place l = take_more nodes place Leaf l

pub passed_more : (nodes : List Node) (place passed : ℕ) → place < length nodes → passed ≡ leaf_count (take place nodes) → passed + leaf_count (get_or nodes place Leaf ∷ []) ≡ leaf_count (take (place + 1) nodes)
passed_more nodes place passed l e = omega (arith, e, ap leaf_count (one_more nodes place l), leaf_count-append (take place nodes) (get_or nodes place Leaf ∷ []))

pub no_leaf : (node : Node) → (node ≡ Leaf → ⊥) → leaf_count (node ∷ []) ≡ 0
no_leaf Leaf h = absurd (h refl)
no_leaf (Split v) h = refl

-- why a leaf is not split
abbrev chain : Bool → Bool → Bool → Option SplitCause
chain a b d = cond a (Some NoSuchLeaf) (cond b (Some TooManyLeaves) (cond d (Some TooDeep) None))

pub none_such : (tree : CubeTree) (k : ℕ) → leaves tree ≤ k → split_fault tree k ≡ Some NoSuchLeaf
none_such tree k l = ap (λ b. chain b (leb 1024 (leaves tree)) (leb 20 (length (get_or (cubes_of tree) k [])))) (le-leb (leaves tree) k l)

pub too_many : (tree : CubeTree) (k : ℕ) → k < leaves tree → 1024 ≤ leaves tree → split_fault tree k ≡ Some TooManyLeaves
too_many tree k l m = (λ i. chain (lt-leb (leaves tree) k l i) (le-leb 1024 (leaves tree) m i) (leb 20 (length (get_or (cubes_of tree) k []))))

pub too_deep : (tree : CubeTree) (k : ℕ) → k < leaves tree → leaves tree < 1024 → 20 ≤ length (get_or (cubes_of tree) k []) → split_fault tree k ≡ Some TooDeep
too_deep tree k l m d = (λ i. chain (lt-leb (leaves tree) k l i) (lt-leb 1024 (leaves tree) m i) (le-leb 20 (length (get_or (cubes_of tree) k [])) d i))

pub splittable : (tree : CubeTree) (k : ℕ) → k < leaves tree → leaves tree < 1024 → length (get_or (cubes_of tree) k []) < 20 → split_fault tree k ≡ None
splittable tree k l m d = (λ i. chain (lt-leb (leaves tree) k l i) (lt-leb 1024 (leaves tree) m i) (lt-leb 20 (length (get_or (cubes_of tree) k [])) d i))

-- and back
pub record IsSplittable (tree : CubeTree) (k : ℕ) : Type 0 where
  pub there : k < leaves tree
  pub few : leaves tree < 1024
  pub short : length (get_or (cubes_of tree) k []) < 20

no_fault : (tree : CubeTree) (k : ℕ) (a b d : Bool) → leb (leaves tree) k ≡ a → leb 1024 (leaves tree) ≡ b → leb 20 (length (get_or (cubes_of tree) k [])) ≡ d → chain a b d ≡ None → IsSplittable tree k
no_fault tree k true b d p q r h = absurd (none-some NoSuchLeaf (sym h))
no_fault tree k false true d p q r h = absurd (none-some TooManyLeaves (sym h))
no_fault tree k false false true p q r h = absurd (none-some TooDeep (sym h))
no_fault tree k false false false p q r h = record { there = leb-false (leaves tree) k p; few = leb-false 1024 (leaves tree) q; short = leb-false 20 (length (get_or (cubes_of tree) k [])) r }

pub is_splittable : (tree : CubeTree) (k : ℕ) → split_fault tree k ≡ None → IsSplittable tree k
is_splittable tree k h = no_fault tree k (leb (leaves tree) k) (leb 1024 (leaves tree)) (leb 20 (length (get_or (cubes_of tree) k []))) refl refl refl h
