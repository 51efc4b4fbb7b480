use Rattle.std.proofs.Common.{IsTrue, take}
use Rattle.std.specs.List.{list_all}
use Rattle.dimacs.specs.Literal.{is_clause}
use Rattle.dimacs.proofs.formula.recall_clauses.Given as goal

abbrev pub invariant-loop-clause : goal.invariant-loop-clause
invariant-loop-clause l = IsTrue (list_all is_clause (take l.clause-index l.clauses))
