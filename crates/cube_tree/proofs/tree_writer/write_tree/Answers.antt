use Rattle.std.proofs.Common.{ap, ◌∙◌}
use Rattle.std.specs.List.{flat_map}
use Rattle.cube_tree.specs.NodeText.{node_text}
use Rattle.cube_tree.proofs.TextLemmas.{text_of_nodes}
use Rattle.cube_tree.proofs.tree_writer.write_tree.Goals as goal

pub returns : goal.returns
returns c = c.in_ok-text.ensures ∙ ap (flat_map node_text) c.nodes.ensures.nodes ∙ text_of_nodes c.args.tree.now
