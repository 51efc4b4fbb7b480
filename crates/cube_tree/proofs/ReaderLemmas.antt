-- What a reader of a tree's lines has read.
use Rattle.std.proofs.Common.{◌≡◌, ℕ, ◌+◌, ◌<◌, ◌≤◌, List, [], ◌∷◌, ◌++◌, map, Bool, true, false, cond, leb, refl, ap, sym, ◌∙◌, arith, append_assoc, append-nil}
use Rattle.std.specs.Prelude.{Option, Some, None, codes, decimal}
use Rattle.std.specs.List.{list_all, flat_map, cons_option}
use Rattle.std.specs.Option.{option_and_then, option_map}
use Rattle.std.specs.Str.{bytes_eq}
use Rattle.std.proofs.lemmas.Bool.{and_parts, and_from, leb-true, leb-false}
use Rattle.std.proofs.lemmas.Option.{cond_some, none-some, option_and_then_some}
use Rattle.std.proofs.lemmas.List.{map-append}
use Rattle.std.proofs.lemmas.List.Folds.{list_all-append}
use Rattle.std.proofs.lemmas.List.Elements.{filter_map-append}
use Rattle.dimacs.specs.Literal.{most_variable}
use Rattle.text_lines.specs.FirstFault.{IsFaultless}
use Rattle.text_lines.specs.Numbers.{plain_number, plain_number_up_to}
use Rattle.text_lines.specs.Words.{words_of}
use Rattle.text_lines.proofs.FaultLemmas.{faultless_nil, faultless_push}
use Rattle.text_lines.proofs.Decimals.PlainLemmas.{decimal_is_plain, plain_is_decimal}
use Rattle.trace_semantics.proofs.NameLemmas.{same_bytes}
use Rattle.cube_tree.specs.declared.node.Node.{Node}
use Rattle.cube_tree.specs.declared.node.Node.TheVariants.{Leaf, Split}
use Rattle.cube_tree.specs.declared.tree_fault.TreeCause.TheVariants.{TooDeep, TooManyLeaves}
use Rattle.cube_tree.specs.CubeTree.{CubeTree, leaf, split, depth, is_variable, IsCubeTree}
use Rattle.cube_tree.specs.Nodes.{nodes_of}
use Rattle.cube_tree.specs.TreeFault.{variable_of, node_of, nodes_on, leaf_count, due_below, due_behind, node_fault, due_fault, tree_line_fault}
use Rattle.cube_tree.specs.TreeText.{tree_lines}
use Rattle.cube_tree.proofs.TreeLemmas.{is_node, leaf_count-append, leaves_counted, variables_of_nodes}

-- the words of a node's line
abbrev pub node_words : Node → List (List ℕ)
node_words Leaf = codes "leaf" ∷ []
node_words (Split v) = codes "split" ∷ (decimal v ∷ [])

pub lines_of_nodes : (tree : CubeTree) → tree_lines tree ≡ map node_words (nodes_of tree)
lines_of_nodes leaf = refl
lines_of_nodes (split v left right) =
    ap (λ ls. (codes "split" ∷ (decimal v ∷ [])) ∷ ls) ((λ i. lines_of_nodes left i ++ lines_of_nodes right i) ∙ sym (map-append node_words (nodes_of left) (nodes_of right)))

pub variable_read : (v : ℕ) → is_variable v ≡ true → variable_of (decimal v) ≡ Some v
variable_read v h =
    let parts = and_parts (leb 1 v) (leb v most_variable) h in
    let high = leb-true v most_variable parts.1 in
    ap (λ o. option_and_then (λ n. cond (leb 1 n) (Some n) None) (option_and_then (λ n. cond (leb n most_variable) (Some n) None) o)) (decimal_is_plain v (omega (arith, high)))
    ∙ ap (λ b. option_and_then (λ n. cond (leb 1 n) (Some n) None) (cond b (Some v) None)) parts.1
    ∙ ap (λ b. cond b (Some v) None) parts.0

pub variable_said : (word : List ℕ) (v : ℕ) → variable_of word ≡ Some v → (word ≡ decimal v) × (is_variable v ≡ true)
variable_said word v e =
    option_and_then_some (λ n. cond (leb 1 n) (Some n) None) (plain_number_up_to most_variable word) v e (λ m plain low.
    let least = cond_some (leb 1 m) m v low in
    option_and_then_some (λ n. cond (leb n most_variable) (Some n) None) (plain_number word) m plain (λ j number high.
    let most = cond_some (leb j most_variable) j m high in
    let below = leb-true j most_variable most.0 in (
      plain_is_decimal word j (omega (arith, below)) number ∙ ap decimal (most.1 ∙ least.1),
      and_from _ _ (ap (leb 1) (sym least.1) ∙ least.0) (ap (λ n. leb n most_variable) (sym (most.1 ∙ least.1)) ∙ most.0),
    )))

-- a node is read from its words
pub node_read : (node : Node) → is_node node ≡ true → node_of (node_words node) ≡ Some node
node_read Leaf h = refl
node_read (Split v) h = ap (option_map (λ n. Split n)) (variable_read v h)

pub record Says (words : List (List ℕ)) (node : Node) : Type 0 where
  pub words_are : words ≡ node_words node
  pub variable : is_node node ≡ true

says_split : (word number : List ℕ) (o : Option ℕ) (node : Node) → variable_of number ≡ o → bytes_eq word (codes "split") ≡ true → option_map (λ v. Split v) o ≡ Some node → Says (word ∷ (number ∷ [])) node
says_split word number None node e b h = absurd (none-some node h)
says_split word number (Some v) node e b h =
    let said = variable_said number v e in
    let same : Split v ≡ node = cc in
    let first : word ≡ codes "split" = same_bytes word (codes "split") b in
    record { words_are = (λ i. first i ∷ (said.0 i ∷ [])) ∙ ap node_words same; variable = ap is_node (sym same) ∙ said.1 }

says_two : (word number : List ℕ) (node : Node) (b : Bool) → bytes_eq word (codes "split") ≡ b → cond b (option_map (λ v. Split v) (variable_of number)) None ≡ Some node → Says (word ∷ (number ∷ [])) node
says_two word number node true e h = says_split word number (variable_of number) node refl e h
says_two word number node false e h = absurd (none-some node h)

pub node_said : (words : List (List ℕ)) (node : Node) → node_of words ≡ Some node → Says words node
node_said [] node h = absurd (none-some node h)
node_said (word ∷ []) node h =
    let found = cond_some (bytes_eq word (codes "leaf")) Leaf node h in
    let first : word ≡ codes "leaf" = same_bytes word (codes "leaf") found.0 in
    record { words_are = ap (λ w. w ∷ []) first ∙ ap node_words found.1; variable = ap is_node (sym found.1) }
node_said (word ∷ (number ∷ [])) node h = says_two word number node (bytes_eq word (codes "split")) refl h
node_said (word ∷ (number ∷ (other ∷ words))) node h = absurd (none-some node h)

-- the nodes that are due, step by step
pub due_append : (due : List ℕ) (xs ys : List Node) → due_behind due (xs ++ ys) ≡ due_behind (due_behind due xs) ys
due_append due [] ys = refl
due_append [] (x ∷ xs) [] = refl
due_append [] (x ∷ xs) (y ∷ ys) = refl
due_append (d ∷ due) (x ∷ xs) ys = due_append (due_below x d due) xs ys

-- trees for the nodes that are due, none of which is too deep
abbrev pub Fits : List ℕ → List CubeTree → Type 0
Fits [] [] = Unit {0}
Fits [] (tree ∷ trees) = ⊥
Fits (d ∷ due) [] = ⊥
Fits (d ∷ due) (tree ∷ trees) = (d + depth tree ≤ 20) × Fits due trees

-- none of these depths is past the limit
abbrev pub AreLow : List ℕ → Type 0
AreLow [] = Unit {0}
AreLow (d ∷ due) = (d ≤ 20) × AreLow due

-- nodes, and after them those of trees, are the nodes of a tree
pub record Grown (nodes : List Node) (trees : List CubeTree) : Type 0 where
  pub tree : CubeTree
  pub whole : nodes_of tree ≡ nodes ++ flat_map nodes_of trees
  pub shallow : depth tree ≤ 20

-- the lines are those of these nodes, none has a fault, and nodes of these depths are due
pub record IsProgress (lines : List (List ℕ)) (nodes : List Node) (due : List ℕ) : Type 0 where
  pub spelled : map words_of lines ≡ map node_words nodes
  pub read : nodes_on lines ≡ nodes
  pub wanted : due_behind (0 ∷ []) nodes ≡ due
  pub faultless : IsFaultless tree_line_fault lines
  pub few : leaf_count nodes ≤ 1024
  pub variables : list_all is_node nodes ≡ true
  pub low : AreLow due
  pub grown : (trees : List CubeTree) → Fits due trees → Grown nodes trees

grown_root : (trees : List CubeTree) → Fits (0 ∷ []) trees → Grown [] trees
grown_root [] f = absurd f
grown_root (tree ∷ []) f = record { tree = tree; whole = sym (append-nil (nodes_of tree)); shallow = omega (arith, f.0) }
grown_root (tree ∷ (other ∷ trees)) f = absurd f.1

pub no_lines : IsProgress [] [] (0 ∷ [])
no_lines = record { spelled = refl; read = refl; wanted = refl; faultless = faultless_nil tree_line_fault; few = omega arith; variables = refl; low = (omega arith, tt); grown = grown_root }

-- what is wrong with the next line
pub fault_here : (lines : List (List ℕ)) (nodes : List Node) (due : List ℕ) (line : List ℕ) → IsProgress lines nodes due →
    tree_line_fault lines line ≡ due_fault due (leaf_count nodes) (node_of (words_of line))
fault_here lines nodes due line h =
    ap (λ ns. due_fault (due_behind (0 ∷ []) ns) (leaf_count ns) (node_of (words_of line))) h.read
    ∙ ap (λ ds. due_fault ds (leaf_count nodes) (node_of (words_of line))) h.wanted

grown_leaf : (nodes : List Node) (d : ℕ) (due : List ℕ) → d ≤ 20 → ((trees : List CubeTree) → Fits (d ∷ due) trees → Grown nodes trees) → (trees : List CubeTree) → Fits due trees → Grown (nodes ++ Leaf ∷ []) trees
grown_leaf nodes d due l more trees f =
    let g = more (leaf ∷ trees) (omega (arith, l), f) in
    record { tree = g.tree; whole = g.whole ∙ sym (append_assoc nodes (Leaf ∷ []) (flat_map nodes_of trees)); shallow = g.shallow }

grown_split : (nodes : List Node) (d v : ℕ) (due : List ℕ) → ((trees : List CubeTree) → Fits (d ∷ due) trees → Grown nodes trees) → (trees : List CubeTree) → Fits ((d + 1) ∷ ((d + 1) ∷ due)) trees → Grown (nodes ++ Split v ∷ []) trees
grown_split nodes d v due more [] f = absurd f
grown_split nodes d v due more (left ∷ []) f = absurd f.1
grown_split nodes d v due more (left ∷ (right ∷ trees)) f =
    let g = more (split v left right ∷ trees) (omega (arith, f.0, f.1.0), f.1.1) in
    record {
      tree = g.tree;
      whole = g.whole
          ∙ ap (λ ns. nodes ++ Split v ∷ ns) (append_assoc (nodes_of left) (nodes_of right) (flat_map nodes_of trees))
          ∙ sym (append_assoc nodes (Split v ∷ []) (flat_map nodes_of (left ∷ (right ∷ trees))));
      shallow = g.shallow;
    }

-- one more line, which says a node without a fault
spelled_more : (lines : List (List ℕ)) (nodes : List Node) (line : List ℕ) (node : Node) → map words_of lines ≡ map node_words nodes → words_of line ≡ node_words node →
    map words_of (lines ++ line ∷ []) ≡ map node_words (nodes ++ node ∷ [])
spelled_more lines nodes line node e f = map-append words_of lines (line ∷ []) ∙ (λ i. e i ++ f i ∷ []) ∙ sym (map-append node_words nodes (node ∷ []))

read_more : (lines : List (List ℕ)) (nodes : List Node) (line : List ℕ) (node : Node) → nodes_on lines ≡ nodes → node_of (words_of line) ≡ Some node → nodes_on (lines ++ line ∷ []) ≡ nodes ++ node ∷ []
read_more lines nodes line node e f =
    filter_map-append (λ (l : List ℕ). node_of (words_of l)) lines (line ∷ []) ∙ (λ i. e i ++ cons_option (f i) [])

few_leaves : (d n : ℕ) → node_fault d n (Some Leaf) ≡ None → n < 1024
few_leaves d n h = few_of n (leb 1024 n) refl h where
  few_of : (n : ℕ) (b : Bool) → leb 1024 n ≡ b → cond b (Some TooManyLeaves) None ≡ None → n < 1024
  few_of n true e h = absurd (none-some TooManyLeaves (sym h))
  few_of n false e h = leb-false 1024 n e

pub not_deep : (d n v : ℕ) → node_fault d n (Some (Split v)) ≡ None → d < 20
not_deep d n v h = deep_of d (leb 20 d) refl h where
  deep_of : (d : ℕ) (b : Bool) → leb 20 d ≡ b → cond b (Some TooDeep) None ≡ None → d < 20
  deep_of d true e h = absurd (none-some TooDeep (sym h))
  deep_of d false e h = leb-false 20 d e

few_more : (nodes : List Node) (node : Node) (d : ℕ) → leaf_count nodes ≤ 1024 → node_fault d (leaf_count nodes) (Some node) ≡ None → leaf_count (nodes ++ node ∷ []) ≤ 1024
few_more nodes Leaf d l h = omega (arith, leaf_count-append nodes (Leaf ∷ []), few_leaves d (leaf_count nodes) h)
few_more nodes (Split v) d l h = omega (arith, leaf_count-append nodes (Split v ∷ []), l)

grown_more : (nodes : List Node) (node : Node) (d : ℕ) (due : List ℕ) → d ≤ 20 → ((trees : List CubeTree) → Fits (d ∷ due) trees → Grown nodes trees) → (trees : List CubeTree) → Fits (due_below node d due) trees → Grown (nodes ++ node ∷ []) trees
grown_more nodes Leaf d due l more = grown_leaf nodes d due l more
grown_more nodes (Split v) d due l more = grown_split nodes d v due more

low_more : (d n : ℕ) (due : List ℕ) (node : Node) → AreLow (d ∷ due) → node_fault d n (Some node) ≡ None → AreLow (due_below node d due)
low_more d n due Leaf l h = l.1
low_more d n due (Split v) l h = (let deep = not_deep d n v h in (omega (arith, deep), (omega (arith, deep), l.1)))

pub next_node : (lines : List (List ℕ)) (nodes : List Node) (d : ℕ) (due : List ℕ) (line : List ℕ) (node : Node) → IsProgress lines nodes (d ∷ due) → node_of (words_of line) ≡ Some node →
    node_fault d (leaf_count nodes) (Some node) ≡ None → IsProgress (lines ++ line ∷ []) (nodes ++ node ∷ []) (due_below node d due)
next_node lines nodes d due line node h said clear =
    let s = node_said (words_of line) node said in
    record {
      spelled = spelled_more lines nodes line node h.spelled s.words_are;
      read = read_more lines nodes line node h.read said;
      wanted = due_append (0 ∷ []) nodes (node ∷ []) ∙ ap (λ ds. due_behind ds (node ∷ [])) h.wanted;
      faultless = faultless_push tree_line_fault lines line h.faultless (fault_here lines nodes (d ∷ due) line h ∙ ap (node_fault d (leaf_count nodes)) said ∙ clear);
      few = few_more nodes node d h.few clear;
      variables = list_all-append is_node nodes (node ∷ []) ∙ and_from _ _ h.variables (and_from _ true s.variable refl);
      low = low_more d (leaf_count nodes) due node h.low clear;
      grown = grown_more nodes node d due h.low.0 h.grown;
    }

-- where no node is due, the nodes are those of a tree
pub whole_tree : (lines : List (List ℕ)) (nodes : List Node) → IsProgress lines nodes [] → (tree : CubeTree) × ((nodes ≡ nodes_of tree) × IsCubeTree tree)
whole_tree lines nodes h =
    let g = h.grown [] tt in
    let same : nodes ≡ nodes_of g.tree = sym (g.whole ∙ append-nil nodes) in (
      g.tree,
      (
        same,
        record {
          shallow = g.shallow;
          few = omega (arith, sym (leaves_counted g.tree) ∙ ap leaf_count (sym same), h.few);
          variables = sym (variables_of_nodes g.tree) ∙ ap (list_all is_node) (sym same) ∙ h.variables;
        },
      ),
    )
