use Rattle.std.proofs.Common.{◌≡◌, take}
use Rattle.std.specs.List.{flat_map}
use Rattle.cube_tree.specs.NodeText.{node_text}
use Rattle.cube_tree.proofs.tree_writer.write_nodes.Given as goal

abbrev pub invariant-loop-node : goal.invariant-loop-node
invariant-loop-node l = l.text.items ≡ flat_map node_text (take l.node-index l.nodes)
