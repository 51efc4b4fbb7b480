use Rattle.std.proofs.Common.{◌++◌, List, ap, ◌∙◌}
use Rattle.cube_tree.specs.declared.node.Node.{Node}
use Rattle.cube_tree.specs.CubeTree.{full_tree}
use Rattle.cube_tree.specs.Nodes.{nodes_of}
use Rattle.cube_tree.proofs.TreeLemmas.{full_within, made, made_is}
use Rattle.cube_tree.proofs.grown.full_tree_of.Goals as goal

pub of_nodes-requires : goal.of_nodes-requires
of_nodes-requires c =
    made _ (full_tree c.args.variables.now) (c.in_ok-push_full_tree.ensures ∙ ap (λ (ns : List Node). ns ++ nodes_of (full_tree c.args.variables.now)) c.new-nodes.ensures.items)
    (full_within c.args.variables.now c.requires.few c.requires.variables)

pub returns : goal.returns
returns c =
    c.of_nodes.ensures ∙ made_is _ (full_tree c.args.variables.now) (c.in_ok-push_full_tree.ensures ∙ ap (λ (ns : List Node). ns ++ nodes_of (full_tree c.args.variables.now)) c.new-nodes.ensures.items)
