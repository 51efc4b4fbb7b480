-- The bytes of a tree's text that a reader has read.
use Rattle.std.proofs.Common.{◌≡◌, ℕ, zero, suc, ◌+◌, ◌-◌, ◌<◌, ◌≤◌, List, [], ◌∷◌, ◌++◌, length, map, take, reverse, refl, ap, sym, ◌∙◌, subst, arith, inl, inr, append_assoc, length-drop}
use Rattle.std.specs.Prelude.{min, Some, None, codes, decimal}
use Rattle.std.specs.List.{before_first, after_first, position_or_len, flat_map}
use Rattle.std.proofs.lemmas.Grind.{flat_map-append}
use Rattle.std.proofs.lemmas.Bool.{cases_lt}
use Rattle.std.proofs.lemmas.List.{length-map, length_push, take_at, reverse-append, drop_all, length-take}
use Rattle.text_lines.specs.Lines.{lines_of, is_line_feed}
use Rattle.text_lines.specs.Words.{words_of}
use Rattle.text_lines.proofs.Cutting.CutLemmas.{lines_cut}
use Rattle.cube_tree.specs.declared.node.Node.{Node}
use Rattle.cube_tree.specs.declared.node.Node.TheVariants.{Leaf, Split}
use Rattle.cube_tree.specs.CubeTree.{CubeTree, leaf, split, IsCubeTree}
use Rattle.cube_tree.specs.Nodes.{nodes_of, tree_of, AreNodes}
use Rattle.cube_tree.specs.NodeText.{node_text}
use Rattle.cube_tree.specs.TreeFault.{node_of, leaf_count, due_below, due_behind, node_fault, due_after}
use Rattle.cube_tree.specs.TreeText.{tree_lines, line_bytes, SpellsTree, tree_text}
use Rattle.cube_tree.proofs.TreeLemmas.{made, made_is}
use Rattle.cube_tree.proofs.ReaderLemmas.{node_words, lines_of_nodes, IsProgress, no_lines, next_node, whole_tree}

pub line_bytes-append : (xs ys : List (List ℕ)) → line_bytes (xs ++ ys) ≡ line_bytes xs + line_bytes ys
line_bytes-append [] ys = omega arith
line_bytes-append (x ∷ xs) ys = omega (arith, line_bytes-append xs ys)

-- the lines of a text take its bytes, and one more where the last lacks its line feed
bytes_below : (n : ℕ) (text : List ℕ) → length text ≤ n → line_bytes (lines_of text) ≤ length text + 1
bytes_below n [] l = omega arith
bytes_below zero (x ∷ text) l = absurd (omega (arith, l))
bytes_below (suc n) (x ∷ text) l =
    let cut = lines_cut (x ∷ text) (omega arith) in
    let p = position_or_len is_line_feed (x ∷ text) in
    let front : length (before_first is_line_feed (x ∷ text)) ≡ min p (length (x ∷ text)) = length-take p (x ∷ text) in
    let back : length (after_first is_line_feed (x ∷ text)) ≡ length (x ∷ text) - (p + 1) = length-drop (p + 1) (x ∷ text) in
    elim (cases_lt p (length (x ∷ text))) [
      | inl h ↦ omega (arith, ap line_bytes cut, front, back, h, bytes_below n (after_first is_line_feed (x ∷ text)) (omega (arith, back, l)))
      | inr h ↦ (
          let none : after_first is_line_feed (x ∷ text) ≡ [] = drop_all (p + 1) (x ∷ text) (omega (arith, h)) in
          omega (arith, ap line_bytes cut ∙ ap (λ t. (length (before_first is_line_feed (x ∷ text)) + 1) + line_bytes (lines_of t)) none, front, h))
    ]

pub most_bytes : (text : List ℕ) → line_bytes (lines_of text) ≤ length text + 1
most_bytes text = bytes_below (length text) text (omega arith)

-- what the reader has read of the text
pub record IsReadSoFar (text : List ℕ) (number bytes leaves : ℕ) (rest : List ℕ) (nodes : List Node) (due : List ℕ) : Type 0 where
  pub done : List (List ℕ)
  pub parts : lines_of text ≡ done ++ lines_of rest
  pub counted : number ≡ length done
  pub sized : bytes ≡ line_bytes done
  pub passed : leaves ≡ leaf_count nodes
  pub progress : IsProgress done nodes due
  pub behind : number + length rest ≤ length text

pub at_start : (text : List ℕ) → IsReadSoFar text 0 0 0 text [] (0 ∷ [])
at_start text = record { done = []; parts = refl; counted = refl; sized = refl; passed = refl; progress = no_lines; behind = omega arith }

-- the next line is within the text
pub within_text : (text : List ℕ) (number bytes leaves : ℕ) (rest : List ℕ) (nodes : List Node) (due : List ℕ) (line after : List ℕ) → IsReadSoFar text number bytes leaves rest nodes due →
    lines_of rest ≡ line ∷ lines_of after → bytes + (length line + 1) ≤ length text + 1
within_text text number bytes leaves rest nodes due line after h cut =
    omega (arith, h.sized, most_bytes text, ap line_bytes h.parts ∙ line_bytes-append h.done (lines_of rest), ap line_bytes cut)

leaves_more : (nodes : List Node) (node : Node) (leaves new : ℕ) → leaves ≡ leaf_count nodes → new ≡ leaves + leaf_count (node ∷ []) → new ≡ leaf_count (nodes ++ node ∷ [])
leaves_more [] node leaves new e f = omega (arith, e, f)
leaves_more (Leaf ∷ nodes) node leaves new e f = omega (arith, leaves_more nodes node (leaf_count nodes) (leaf_count nodes + leaf_count (node ∷ [])) refl refl, e, f)
leaves_more (Split v ∷ nodes) node leaves new e f = leaves_more nodes node leaves new e f

pub next_line : (text : List ℕ) (number bytes leaves : ℕ) (rest : List ℕ) (nodes : List Node) (d : ℕ) (due : List ℕ) (line after : List ℕ) (node : Node) (new : ℕ) →
    IsReadSoFar text number bytes leaves rest nodes (d ∷ due) → lines_of rest ≡ line ∷ lines_of after → length after < length rest → node_of (words_of line) ≡ Some node →
    node_fault d leaves (Some node) ≡ None → new ≡ leaves + leaf_count (node ∷ []) →
    IsReadSoFar text (number + 1) (bytes + (length line + 1)) new after (nodes ++ node ∷ []) (due_below node d due)
next_line text number bytes leaves rest nodes d due line after node new h cut shorter said clear e =
    record {
      done = h.done ++ line ∷ [];
      parts = h.parts ∙ ap (λ ls. h.done ++ ls) cut ∙ sym (append_assoc h.done (line ∷ []) (lines_of after));
      counted = omega (arith, h.counted, length_push h.done line);
      sized = omega (arith, h.sized, line_bytes-append h.done (line ∷ []));
      passed = leaves_more nodes node leaves new h.passed e;
      progress = next_node h.done nodes d due line node h.progress said (ap (λ n. node_fault d n (Some node)) (sym h.passed) ∙ clear);
      behind = omega (arith, h.behind, shorter);
    }

pub some_due : (lines : List (List ℕ)) (nodes : List Node) (d : ℕ) (due : List ℕ) → IsProgress lines nodes (d ∷ due) → due_after lines ≡ d ∷ due
some_due lines nodes d due h = ap (due_behind (0 ∷ [])) h.read ∙ h.wanted

-- the lines of a whole tree spell it
pub whole_spelled : (text : List ℕ) (done others : List (List ℕ)) (nodes : List Node) (tree : CubeTree) → lines_of text ≡ done ++ others → map words_of done ≡ map node_words nodes →
    nodes ≡ nodes_of tree → IsCubeTree tree → SpellsTree text tree (min (length text) (line_bytes done))
whole_spelled text done others nodes tree parts spelled same ok =
    let words : map words_of done ≡ tree_lines tree = spelled ∙ ap (map node_words) same ∙ sym (lines_of_nodes tree) in
    let count : length (tree_lines tree) ≡ length done = ap length (sym words) ∙ length-map done words_of in
    let front : take (length (tree_lines tree)) (lines_of text) ≡ done = (λ i. take (count i) (parts i)) ∙ take_at done others (length done) refl in
    record {
      lines = ap (map words_of) front ∙ words;
      within = ok;
      taken = ap (λ ls. min (length text) (line_bytes ls)) (sym front);
    }

pub spelled_whole : (text : List ℕ) (number bytes leaves : ℕ) (rest : List ℕ) (nodes : List Node) → IsReadSoFar text number bytes leaves rest nodes [] →
    (AreNodes nodes) × SpellsTree text (tree_of nodes) (min (length text) bytes)
spelled_whole text number bytes leaves rest nodes h =
    let w = whole_tree h.done nodes h.progress in
    let same : tree_of nodes ≡ w.0 = made_is nodes w.0 w.1.0 in (
      made nodes w.0 w.1.0 w.1.1,
      subst (λ (n : ℕ). SpellsTree text (tree_of nodes) (min (length text) n)) (sym h.sized)
          (subst (λ (t : CubeTree). SpellsTree text t (min (length text) (line_bytes h.done))) (sym same) (whole_spelled text h.done (lines_of rest) nodes w.0 h.parts h.progress.spelled w.1.0 w.1.1)),
    )

-- the stack of what is due, whose last is the next
pub popped : {A : Type 0} (old new : List A) (x : A) → old ≡ new ++ x ∷ [] → reverse old ≡ x ∷ reverse new
popped old new x e = ap reverse e ∙ reverse-append new (x ∷ [])

pub empty_stack : {A : Type 0} (old : List A) → (0 < length old → ⊥) → reverse old ≡ []
empty_stack [] e = refl
empty_stack (x ∷ old) e = absurd (e (omega arith))

-- the canonical text is that of the nodes
pub text_of_nodes : (tree : CubeTree) → flat_map node_text (nodes_of tree) ≡ tree_text tree
text_of_nodes leaf = refl
text_of_nodes (split v left right) =
    ap (λ t. (codes "split " ++ (decimal v ++ codes "\n")) ++ t) (flat_map-append node_text (nodes_of left) (nodes_of right) ∙ (λ i. text_of_nodes left i ++ text_of_nodes right i))
    ∙ append_assoc (codes "split ") (decimal v ++ codes "\n") (tree_text left ++ tree_text right)
    ∙ ap (λ t. codes "split " ++ t) (append_assoc (decimal v) (codes "\n") (tree_text left ++ tree_text right))
