-- The line of a node.
use Rattle.std.specs.Prelude.{ℕ, List, ◌++◌, codes, decimal}
use Rattle.cube_tree.specs.declared.node.Node.{Node}
use Rattle.cube_tree.specs.declared.node.Node.TheVariants.{Leaf, Split}

-- a node as its line, ended by a line feed
abbrev pub node_text : Node → List ℕ
node_text Leaf = codes "leaf\n"
node_text (Split v) = codes "split " ++ (decimal v ++ codes "\n")
