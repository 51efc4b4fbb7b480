-- The laws of a tree's text.
use Rattle.std.proofs.Common.{◌≡◌, ◌⊎◌, ℕ, ◌+◌, ◌<◌, ◌≤◌, List, [], ◌∷◌, ◌++◌, length, map, take, drop, true, cond, refl, ap, sym, ◌∙◌, subst, arith, inl, inr, append_assoc, append-nil}
use Rattle.std.specs.Prelude.{min, Some, None, Option, ◌&&◌, is_some, slice_get, codes, decimal}
use Rattle.std.proofs.lemmas.Bool.{and_parts, lt-leb, false≢true}
use Rattle.std.proofs.lemmas.Fmt.{decimal_injective}
use Rattle.std.proofs.lemmas.List.{map-append, take-append-drop}
use Rattle.std.proofs.lemmas.List.Elements.{filter_map-append}
use Rattle.std.proofs.lemmas.Option.{none-some}
use Rattle.text_lines.specs.FirstFault.{IsFaultless}
use Rattle.text_lines.specs.Lines.{lines_of}
use Rattle.text_lines.specs.Words.{words_of}
use Rattle.text_lines.proofs.FaultLemmas.{one_first, faultless_push, none_is_some}
use Rattle.cube_tree.specs.declared.node.Node.{Node}
use Rattle.cube_tree.specs.declared.node.Node.TheVariants.{Leaf, Split}
use Rattle.cube_tree.specs.declared.tree_fault.TreeCause.{TreeCause}
use Rattle.cube_tree.specs.declared.tree_fault.TreeCause.TheVariants.{BadLine, TooDeep, TooManyLeaves}
use Rattle.cube_tree.specs.CubeTree.{CubeTree, leaf, split, depth, leaves, is_variable, splits_variables}
use Rattle.cube_tree.specs.Nodes.{nodes_of}
use Rattle.cube_tree.specs.TreeFault.{node_of, nodes_on, leaf_count, due_below, due_behind, due_after, node_fault, due_fault, tree_line_fault, HasTreeFault}
use Rattle.cube_tree.specs.TreeText.{tree_lines, line_bytes, front_bytes, SpellsTree}
use Rattle.cube_tree.proofs.TreeLemmas.{is_node, leaf_count-append, leaves_counted}
use Rattle.cube_tree.proofs.ReaderLemmas.{node_words, node_read, due_append, IsProgress, no_lines, fault_here, next_node, whole_tree}
use Rattle.cube_tree.proofs.TextLemmas.{whole_spelled, some_due}
use Rattle.cube_tree.proofs.WrittenLemmas.{variable_small}

-- no tree's lines begin those of another tree
pub same_tree : (s t : CubeTree) (x y : List (List (List ℕ))) → splits_variables s ≡ true → splits_variables t ≡ true → tree_lines s ++ x ≡ tree_lines t ++ y → (s ≡ t) × (x ≡ y)
same_tree leaf leaf x y h k e = (refl, cc)
same_tree leaf (split v l r) x y h k e = absurd (let words : codes "leaf" ∷ [] ≡ codes "split" ∷ (decimal v ∷ []) = cc in cc)
same_tree (split v l r) leaf x y h k e = absurd (let words : codes "split" ∷ (decimal v ∷ []) ≡ codes "leaf" ∷ [] = cc in cc)
same_tree (split v l r) (split u m n) x y h k e =
    let words : codes "split" ∷ (decimal v ∷ []) ≡ codes "split" ∷ (decimal u ∷ []) = cc in
    let digits : decimal v ≡ decimal u = cc in
    let tails : (tree_lines l ++ tree_lines r) ++ x ≡ (tree_lines m ++ tree_lines n) ++ y = cc in
    let first = and_parts (is_variable v) (splits_variables l && splits_variables r) h in
    let second = and_parts (is_variable u) (splits_variables m && splits_variables n) k in
    let ones = and_parts (splits_variables l) (splits_variables r) first.1 in
    let twos = and_parts (splits_variables m) (splits_variables n) second.1 in
    let number = decimal_injective v u (variable_small v first.0) (variable_small u second.0) digits in
    let left = same_tree l m (tree_lines r ++ x) (tree_lines n ++ y) ones.0 twos.0 (sym (append_assoc (tree_lines l) (tree_lines r) x) ∙ tails ∙ append_assoc (tree_lines m) (tree_lines n) y) in
    let right = same_tree r n x y ones.1 twos.1 left.1 in
    ((λ i. split (number i) (left.0 i) (right.0 i)), right.1)

words_split : (text : List ℕ) (tree : CubeTree) (bytes : ℕ) → SpellsTree text tree bytes → map words_of (lines_of text) ≡ tree_lines tree ++ map words_of (drop (length (tree_lines tree)) (lines_of text))
words_split text tree bytes h =
    ap (map words_of) (sym (take-append-drop (length (tree_lines tree)) (lines_of text)))
    ∙ map-append words_of (take (length (tree_lines tree)) (lines_of text)) (drop (length (tree_lines tree)) (lines_of text))
    ∙ ap (λ ls. ls ++ map words_of (drop (length (tree_lines tree)) (lines_of text))) h.lines

pub one_spelled : (text : List ℕ) (s t : CubeTree) (m n : ℕ) → SpellsTree text s m → SpellsTree text t n → (s ≡ t) × (m ≡ n)
one_spelled text s t m n h k =
    let same = same_tree s t _ _ h.within.variables k.within.variables (sym (words_split text s m h) ∙ words_split text t n k) in
    (same.0, h.taken ∙ ap (λ tree. front_bytes (length (tree_lines tree)) text) same.0 ∙ sym k.taken)

-- lines after a whole tree have no fault
record IsBehind (lines : List (List ℕ)) : Type 0 where
  faultless : IsFaultless tree_line_fault lines
  none : due_after lines ≡ []

none_due : (nodes : List Node) → due_behind [] nodes ≡ []
none_due [] = refl
none_due (n ∷ nodes) = refl

push_behind : (lines : List (List ℕ)) (line : List ℕ) → IsBehind lines → IsBehind (lines ++ line ∷ [])
push_behind lines line h =
    record {
      faultless = faultless_push tree_line_fault lines line h.faultless (ap (λ ds. due_fault ds (leaf_count (nodes_on lines)) (node_of (words_of line))) h.none);
      none = ap (due_behind (0 ∷ [])) (filter_map-append (λ (l : List ℕ). node_of (words_of l)) lines (line ∷ [])) ∙ due_append (0 ∷ []) (nodes_on lines) (nodes_on (line ∷ []))
          ∙ ap (λ ds. due_behind ds (nodes_on (line ∷ []))) h.none ∙ none_due (nodes_on (line ∷ []));
    }

all_behind : (done lines : List (List ℕ)) → IsBehind done → IsBehind (done ++ lines)
all_behind done [] h = subst IsBehind (sym (append-nil done)) h
all_behind done (line ∷ lines) h = subst IsBehind (append_assoc done (line ∷ []) lines) (all_behind (done ++ line ∷ []) lines (push_behind done line h))

-- lines whose words are those of two lists
record MapParts (xs : List (List ℕ)) (ys zs : List (List (List ℕ))) : Type 0 where
  front : List (List ℕ)
  back : List (List ℕ)
  parts : xs ≡ front ++ back
  first : map words_of front ≡ ys
  second : map words_of back ≡ zs

map_parts : (xs : List (List ℕ)) (ys zs : List (List (List ℕ))) → map words_of xs ≡ ys ++ zs → MapParts xs ys zs
map_parts xs [] zs e = record { front = []; back = xs; parts = refl; first = refl; second = e }
map_parts [] (y ∷ ys) zs e = absurd (cc)
map_parts (x ∷ xs) (y ∷ ys) zs e =
    let heads : words_of x ≡ y = cc in
    let tails : map words_of xs ≡ ys ++ zs = cc in
    let rest = map_parts xs ys zs tails in
    record { front = x ∷ rest.front; back = rest.back; parts = ap (λ ls. x ∷ ls) rest.parts; first = (λ i. heads i ∷ rest.first i); second = rest.second }

-- the lines of a tree are read without a fault
abbrev Ran : List (List ℕ) → List Node → List ℕ → List (List ℕ) → CubeTree → Type 0
Ran lines nodes due more tree = IsProgress (lines ++ more) (nodes ++ nodes_of tree) due

no_leaf_fault : (n : ℕ) → n < 1024 → (d : ℕ) → node_fault d n (Some Leaf) ≡ None
no_leaf_fault n l d = ap (λ b. cond b (Some TooManyLeaves) None) (lt-leb 1024 n l)

no_split_fault : (d n v : ℕ) → d < 20 → node_fault d n (Some (Split v)) ≡ None
no_split_fault d n v l = ap (λ b. cond b (Some TooDeep) None) (lt-leb 20 d l)

said : (line : List ℕ) (node : Node) → words_of line ≡ node_words node → is_node node ≡ true → node_of (words_of line) ≡ Some node
said line node e h = ap node_of e ∙ node_read node h

run : (tree : CubeTree) (lines : List (List ℕ)) (nodes : List Node) (d : ℕ) (due : List ℕ) (more : List (List ℕ)) → IsProgress lines nodes (d ∷ due) → d + depth tree ≤ 20 → leaf_count nodes + leaves tree ≤ 1024 →
    splits_variables tree ≡ true → map words_of more ≡ tree_lines tree → Ran lines nodes due more tree
run leaf lines nodes d due [] h l few ok e = absurd (cc)
run leaf lines nodes d due (line ∷ (other ∷ more)) h l few ok e = absurd (cc)
run leaf lines nodes d due (line ∷ []) h l few ok e =
    let words : words_of line ≡ codes "leaf" ∷ [] = cc in
    next_node lines nodes d due line Leaf h (said line Leaf words refl) (no_leaf_fault (leaf_count nodes) (omega (arith, few)) d)
run (split v left right) lines nodes d due [] h l few ok e = absurd (cc)
run (split v left right) lines nodes d due (line ∷ more) h l few ok e =
    let words : words_of line ≡ codes "split" ∷ (decimal v ∷ []) = cc in
    let tails : map words_of more ≡ tree_lines left ++ tree_lines right = cc in
    let parts = and_parts (is_variable v) (splits_variables left && splits_variables right) ok in
    let below = and_parts (splits_variables left) (splits_variables right) parts.1 in
    let cut = map_parts more (tree_lines left) (tree_lines right) tails in
    let first = next_node lines nodes d due line (Split v) h (said line (Split v) words parts.0) (no_split_fault d (leaf_count nodes) v (omega (arith, l))) in
    let count : leaf_count (nodes ++ Split v ∷ []) ≡ leaf_count nodes = leaf_count-append nodes (Split v ∷ []) ∙ omega arith in
    let second = run left (lines ++ line ∷ []) (nodes ++ Split v ∷ []) (d + 1) ((d + 1) ∷ due) cut.front first (omega (arith, l)) (omega (arith, few, count)) below.0 cut.first in
    let counted : leaf_count ((nodes ++ Split v ∷ []) ++ nodes_of left) ≡ leaf_count nodes + leaves left = leaf_count-append (nodes ++ Split v ∷ []) (nodes_of left) ∙ (λ i. count i + leaves_counted left i) in
    let third = run right ((lines ++ line ∷ []) ++ cut.front) ((nodes ++ Split v ∷ []) ++ nodes_of left) (d + 1) due cut.back second (omega (arith, l)) (omega (arith, few, counted)) below.1 cut.second in
    let same_lines : ((lines ++ line ∷ []) ++ cut.front) ++ cut.back ≡ lines ++ line ∷ more =
    append_assoc (lines ++ line ∷ []) cut.front cut.back ∙ append_assoc lines (line ∷ []) (cut.front ++ cut.back) ∙ ap (λ ls. lines ++ line ∷ ls) (sym cut.parts) in
    let same_nodes : ((nodes ++ Split v ∷ []) ++ nodes_of left) ++ nodes_of right ≡ nodes ++ nodes_of (split v left right) =
    append_assoc (nodes ++ Split v ∷ []) (nodes_of left) (nodes_of right) ∙ append_assoc nodes (Split v ∷ []) (nodes_of left ++ nodes_of right) in
    subst (λ (ns : List Node). IsProgress (lines ++ line ∷ more) ns due) same_nodes (subst (λ (ls : List (List ℕ)). IsProgress ls (((nodes ++ Split v ∷ []) ++ nodes_of left) ++ nodes_of right) due) same_lines third)

spelled_behind : (text : List ℕ) (tree : CubeTree) (bytes : ℕ) → SpellsTree text tree bytes → IsBehind (lines_of text)
spelled_behind text tree bytes h =
    let n = length (tree_lines tree) in
    let done = run tree [] [] 0 [] (take n (lines_of text)) no_lines (omega (arith, h.within.shallow)) (omega (arith, h.within.few)) h.within.variables h.lines in
    subst IsBehind (take-append-drop n (lines_of text))
    (all_behind (take n (lines_of text)) (drop n (lines_of text)) (record { faultless = done.faultless; none = ap (due_behind (0 ∷ [])) done.read ∙ done.wanted }))

pub never_both : (text : List ℕ) (tree : CubeTree) (bytes : ℕ) (cause : TreeCause) (line : ℕ) → SpellsTree text tree bytes → HasTreeFault text cause line → ⊥
never_both text tree bytes cause line h (inl f) = none_is_some cause (sym ((spelled_behind text tree bytes h).faultless f.before f.item f.after f.parts) ∙ f.faulty)
never_both text tree bytes cause line h (inr f) = false≢true (sym (ap (λ ds. is_some (slice_get ds 0)) (spelled_behind text tree bytes h).none) ∙ f.due)

pub one_refused : (text : List ℕ) (c d : TreeCause) (p q : ℕ) → HasTreeFault text c p → HasTreeFault text d q → (c ≡ d) × (p ≡ q)
one_refused text c d p q (inl f) (inl g) = (let same = one_first tree_line_fault (lines_of text) p q c d f g in (same.1, same.0))
one_refused text c d p q (inl f) (inr g) = absurd (none_is_some c (sym (g.faultless f.before f.item f.after f.parts) ∙ f.faulty))
one_refused text c d p q (inr f) (inl g) = absurd (none_is_some d (sym (f.faultless g.before g.item g.after g.parts) ∙ g.faulty))
one_refused text c d p q (inr f) (inr g) = (f.bad ∙ sym g.bad, f.behind ∙ sym g.behind)

-- each text spells a tree or has a fault
abbrev IsEither : List ℕ → Type 0
IsEither text = ((tree : CubeTree) × ((bytes : ℕ) × SpellsTree text tree bytes)) ⊎ ((cause : TreeCause) × ((line : ℕ) × HasTreeFault text cause line))

fault_at : (text : List ℕ) (done rest : List (List ℕ)) (nodes : List Node) (due : List ℕ) (line : List ℕ) (cause : TreeCause) → lines_of text ≡ done ++ line ∷ rest → IsProgress done nodes due →
    due_fault due (leaf_count nodes) (node_of (words_of line)) ≡ Some cause → IsEither text
fault_at text done rest nodes due line cause parts h faulty =
    inr (cause, (length done + 1, inl (record { before = done; item = line; after = rest; parts = parts; counted = refl; faulty = fault_here done nodes due line h ∙ faulty; first = h.faultless })))

step : (text : List ℕ) (done rest : List (List ℕ)) (nodes : List Node) (d : ℕ) (due : List ℕ) (line : List ℕ) (o : Option Node) (f : Option TreeCause) → lines_of text ≡ done ++ line ∷ rest → IsProgress done nodes (d ∷ due) →
    node_of (words_of line) ≡ o → node_fault d (leaf_count nodes) o ≡ f → ((node : Node) → IsProgress (done ++ line ∷ []) (nodes ++ node ∷ []) (due_below node d due) → IsEither text) → IsEither text
step text done rest nodes d due line o (Some cause) parts h said fault more = fault_at text done rest nodes (d ∷ due) line cause parts h (ap (node_fault d (leaf_count nodes)) said ∙ fault)
step text done rest nodes d due line None None parts h said fault more = absurd (none-some BadLine (sym fault))
step text done rest nodes d due line (Some node) None parts h said fault more = more node (next_node done nodes d due line node h said fault)

walk : (text : List ℕ) (rest done : List (List ℕ)) (nodes : List Node) (due : List ℕ) → lines_of text ≡ done ++ rest → IsProgress done nodes due → IsEither text
walk text rest done nodes [] parts h =
    let w = whole_tree done nodes h in
    inl (w.0, (min (length text) (line_bytes done), whole_spelled text done rest nodes w.0 parts h.spelled w.1.0 w.1.1))
walk text [] done nodes (d ∷ due) parts h =
    let all : lines_of text ≡ done = parts ∙ append-nil done in
    let progress : IsProgress (lines_of text) nodes (d ∷ due) = subst (λ (ls : List (List ℕ)). IsProgress ls nodes (d ∷ due)) (sym all) h in
    inr (BadLine, (length (lines_of text) + 1, inr (record { faultless = progress.faultless; due = ap (λ ds. is_some (slice_get ds 0)) (some_due (lines_of text) nodes d due progress); bad = refl; behind = refl })))
walk text (line ∷ rest) done nodes (d ∷ due) parts h =
    step text done rest nodes d due line (node_of (words_of line)) (node_fault d (leaf_count nodes) (node_of (words_of line))) parts h refl refl
    (λ node next. walk text rest (done ++ line ∷ []) (nodes ++ node ∷ []) (due_below node d due) (parts ∙ sym (append_assoc done (line ∷ []) rest)) next)

pub spelled_or_refused : (text : List ℕ) → ((tree : CubeTree) × ((bytes : ℕ) × SpellsTree text tree bytes)) ⊎ ((cause : TreeCause) × ((line : ℕ) × HasTreeFault text cause line))
spelled_or_refused text = walk text (lines_of text) [] [] (0 ∷ []) refl no_lines
