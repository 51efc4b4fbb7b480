use Rattle.dimacs.specs.Assignment.{value_of}
use Rattle.dimacs.specs.Models.{IsModel}
use Rattle.clause_blocks.proofs.ClauseList.PartLemmas.{clauses_to}
use Rattle.clause_blocks.proofs.listed_clauses.TraceClausesClauseList.eval.Given as goal

abbrev pub invariant-loop-k : goal.invariant-loop-k
invariant-loop-k l = IsModel (value_of l.assignment) (clauses_to l.self l.k)
