use Rattle.std.proofs.Common.{length}
use Rattle.cube_tree.proofs.grown.+push_full_tree.Given as goal

abbrev pub decreases-push_full_tree : goal.decreases-push_full_tree
decreases-push_full_tree l = length l.variables.now
