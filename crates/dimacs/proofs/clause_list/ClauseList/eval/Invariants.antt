use Rattle.std.proofs.Common.{IsTrue, take}
use Rattle.std.specs.List.{list_all}
use Rattle.dimacs.specs.Assignment.{value_of, makes_some}
use Rattle.dimacs.proofs.clause_list.ClauseList.eval.Given as goal

abbrev pub invariant-loop-place : goal.invariant-loop-place
invariant-loop-place g l = IsTrue (list_all (makes_some (value_of l.assignment)) (take l.place (g.Self.ClauseList.formula l.self).clauses))
