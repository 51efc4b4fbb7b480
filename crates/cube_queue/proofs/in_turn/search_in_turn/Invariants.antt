use Rattle.std.proofs.Common.{take}
use Rattle.cube_tree.specs.CubeTree.{cubes_of}
use Rattle.cube_queue.proofs.AllResults.ResultLemmas.{AreUpTo}
use Rattle.cube_queue.proofs.in_turn.search_in_turn.Given as goal

abbrev pub invariant-loop-leaf : goal.invariant-loop-leaf
invariant-loop-leaf g l = AreUpTo (g.L.ClauseList.formula l.settler.formula.now).clauses (cubes_of l.tree) (take l.leaf-index l.which) l.results.items l.has_model
