use Rattle.std.proofs.Common.{ap, ◌∙◌, arith}
use Rattle.std.proofs.lemmas.Bool.{and_from, le-leb}
use Rattle.cube_tree.specs.TreeFault.{leaf_count}
use Rattle.cube_tree.specs.CubeTree.{with_split}
use Rattle.cube_tree.proofs.LeafLemmas.{is_splittable}
use Rattle.cube_tree.proofs.SplitLemmas.{split_made, split_within}
use Rattle.cube_tree.proofs.TreeLemmas.{leaves_counted, made, made_is}
use Rattle.cube_tree.proofs.leaf_split.tree_with_split.Goals as goal

pub unreachable-requires : goal.unreachable-requires
unreachable-requires c =
    let h = is_splittable c.args.tree.now c.args.k c.requires.split in
    absurd (omega (arith, h.there, c.in_default.ensures, ap leaf_count c.nodes-nodes.ensures.nodes, leaves_counted c.args.tree.now))

pub of_nodes-requires : goal.of_nodes-requires
of_nodes-requires c =
    let h = is_splittable c.args.tree.now c.args.k c.requires.split in
    made _ (with_split c.args.k c.args.variable c.args.tree.now) (split_made c.args.tree.now _ _ c.args.k _ c.args.variable c.nodes-nodes.ensures.nodes c.in-Some.ensures c.in_ok-nodes.ensures)
    (split_within c.args.tree.now c.args.k c.args.variable c.nodes-nodes.ensures.tree (and_from _ _ (le-leb 1 c.args.variable c.requires.first) (le-leb c.args.variable 4194304 c.requires.last)) h.there h.few h.short)

pub returns : goal.returns
returns c =
    c.of_nodes.ensures ∙ made_is _ (with_split c.args.k c.args.variable c.args.tree.now) (split_made c.args.tree.now _ _ c.args.k _ c.args.variable c.nodes-nodes.ensures.nodes c.in-Some.ensures c.in_ok-nodes.ensures)
