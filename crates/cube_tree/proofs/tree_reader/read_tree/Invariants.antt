use Rattle.std.proofs.Common.{length, reverse}
use Rattle.cube_tree.proofs.TextLemmas.{IsReadSoFar}
use Rattle.cube_tree.proofs.tree_reader.read_tree.Given as goal

abbrev pub invariant-loop-depth : goal.invariant-loop-depth
invariant-loop-depth l = IsReadSoFar l.text l.number l.bytes l.leaves l.rest l.nodes.items (reverse l.due.items)

abbrev pub decreases-loop-depth : goal.decreases-loop-depth
decreases-loop-depth l = length l.rest
