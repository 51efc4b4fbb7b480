-- The text of a tree: a line for each node, in preorder.
use Rattle.std.specs.Prelude.{◌≡◌, ℕ, ◌+◌, min, List, [], ◌∷◌, ◌++◌, length, map, take, codes, decimal}
use Rattle.text_lines.specs.Lines.{lines_of}
use Rattle.text_lines.specs.Words.{words_of}
use Rattle.cube_tree.specs.CubeTree.{CubeTree, leaf, split, IsCubeTree}

-- the words of the lines of a tree: those of a split, then the lines of its left tree and then those of its right tree
abbrev pub tree_lines : CubeTree → List (List (List ℕ))
tree_lines leaf = (codes "leaf" ∷ []) ∷ []
tree_lines (split v left right) = (codes "split" ∷ (decimal v ∷ [])) ∷ (tree_lines left ++ tree_lines right)

-- how many bytes lines take, each with its line feed
abbrev pub line_bytes : List (List ℕ) → ℕ
line_bytes [] = 0
line_bytes (line ∷ lines) = (length line + 1) + line_bytes lines

-- the number of bytes that the first lines of a text take, of which the last may be without its line feed
abbrev pub front_bytes : ℕ → List ℕ → ℕ
front_bytes count text = min (length text) (line_bytes (take count (lines_of text)))

-- the first lines of the text are those of the tree, and take this number of bytes
pub record SpellsTree (text : List ℕ) (tree : CubeTree) (bytes : ℕ) : Type 0 where
  pub lines : map words_of (take (length (tree_lines tree)) (lines_of text)) ≡ tree_lines tree
  pub within : IsCubeTree tree
  pub taken : bytes ≡ front_bytes (length (tree_lines tree)) text

-- the canonical text of a tree
abbrev pub tree_text : CubeTree → List ℕ
tree_text leaf = codes "leaf\n"
tree_text (split v left right) = codes "split " ++ (decimal v ++ (codes "\n" ++ (tree_text left ++ tree_text right)))
