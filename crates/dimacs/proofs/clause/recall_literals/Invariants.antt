use Rattle.std.proofs.Common.{IsTrue, take}
use Rattle.dimacs.specs.Literal.{is_clause}
use Rattle.dimacs.proofs.clause.recall_literals.Given as goal

abbrev pub invariant-loop-literal : goal.invariant-loop-literal
invariant-loop-literal l = IsTrue (is_clause (take l.literal-index l.literals))
