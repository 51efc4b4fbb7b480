-- The first fault of a tree's text.
use Rattle.std.specs.Prelude.{◌≡◌, ◌⊎◌, ℕ, ◌+◌, List, [], ◌∷◌, length, Option, Some, None, is_some, codes, nat_le, slice_get, if◌then◌else◌, IsTrue}
use Rattle.std.specs.List.{filter_map}
use Rattle.std.specs.Option.{option_and_then, option_map}
use Rattle.std.specs.Str.{bytes_eq}
use Rattle.dimacs.specs.Literal.{most_variable}
use Rattle.text_lines.specs.FirstFault.{IsFaultless, IsFirstFault}
use Rattle.text_lines.specs.Lines.{lines_of}
use Rattle.text_lines.specs.Numbers.{plain_number_up_to}
use Rattle.text_lines.specs.Words.{words_of}
use Rattle.cube_tree.specs.declared.node.Node.{Node}
use Rattle.cube_tree.specs.declared.node.Node.TheVariants.{Leaf, Split}
use Rattle.cube_tree.specs.declared.tree_fault.TreeCause.{TreeCause}
use Rattle.cube_tree.specs.declared.tree_fault.TreeCause.TheVariants.{BadLine, TooDeep, TooManyLeaves}

-- the number of a cause
abbrev pub cause_number : TreeCause → ℕ
cause_number BadLine = 2
cause_number TooDeep = 3
cause_number TooManyLeaves = 4

-- the name of a cause
abbrev pub cause_name : TreeCause → List ℕ
cause_name BadLine = codes "BadLine"
cause_name TooDeep = codes "TooDeep"
cause_name TooManyLeaves = codes "TooManyLeaves"

-- the variable that a word writes: a plain number from 1 on
abbrev pub variable_of : List ℕ → Option ℕ
variable_of word = option_and_then (λ v. if nat_le 1 v then Some v else None) (plain_number_up_to most_variable word)

-- the node that the words of a line say: `leaf`, or `split` and a variable
abbrev pub node_of : List (List ℕ) → Option Node
node_of (word ∷ []) = if bytes_eq word (codes "leaf") then Some Leaf else None
node_of (word ∷ (number ∷ [])) = if bytes_eq word (codes "split") then option_map (λ v. Split v) (variable_of number) else None
node_of words = None

-- the nodes that lines say
abbrev pub nodes_on : List (List ℕ) → List Node
nodes_on lines = filter_map (λ line. node_of (words_of line)) lines

-- how many of them are leaves
abbrev pub leaf_count : List Node → ℕ
leaf_count [] = 0
leaf_count (Leaf ∷ nodes) = leaf_count nodes + 1
leaf_count (Split v ∷ nodes) = leaf_count nodes

-- the depths of the nodes that are due after a node which was due at this depth before these others
abbrev pub due_below : Node → ℕ → List ℕ → List ℕ
due_below Leaf d others = others
due_below (Split v) d others = (d + 1) ∷ ((d + 1) ∷ others)

-- The depths of the nodes that are due after these nodes, where nodes of such depths were due before them, the next one first.
-- If none is due, the tree is whole.
abbrev pub due_behind : List ℕ → List Node → List ℕ
due_behind due [] = due
due_behind [] (node ∷ nodes) = []
due_behind (d ∷ due) (node ∷ nodes) = due_behind (due_below node d due) nodes

-- those that are due after these lines of a tree, whose root has depth 0
abbrev pub due_after : List (List ℕ) → List ℕ
due_after lines = due_behind (0 ∷ []) (nodes_on lines)

-- what is wrong with a node at this depth after this number of leaves
abbrev pub node_fault : ℕ → ℕ → Option Node → Option TreeCause
node_fault d leaves None = Some BadLine
node_fault d leaves (Some (Split v)) = if nat_le 20 d then Some TooDeep else None
node_fault d leaves (Some Leaf) = if nat_le 1024 leaves then Some TooManyLeaves else None

-- the same, where the depth is that of the first node that is due: after a whole tree nothing is wrong
abbrev pub due_fault : List ℕ → ℕ → Option Node → Option TreeCause
due_fault [] leaves said = None
due_fault (d ∷ due) leaves said = node_fault d leaves said

-- what is wrong with a line after the lines before it
abbrev pub tree_line_fault : List (List ℕ) → List ℕ → Option TreeCause
tree_line_fault before line = due_fault (due_after before) (leaf_count (nodes_on before)) (node_of (words_of line))

-- no line has a fault, and a node is due at the end of the text
pub record EndsWithin (text : List ℕ) (cause : TreeCause) (line : ℕ) : Type 0 where
  pub faultless : IsFaultless tree_line_fault (lines_of text)
  pub due : IsTrue (is_some (slice_get (due_after (lines_of text)) 0))
  pub bad : cause ≡ BadLine
  pub behind : line ≡ length (lines_of text) + 1

-- The text has its first fault at this line, counted from 1. If it ends within the tree, that is the line after the last.
abbrev pub HasTreeFault : List ℕ → TreeCause → ℕ → Type 0
HasTreeFault text cause line = IsFirstFault tree_line_fault (lines_of text) line cause ⊎ EndsWithin text cause line
