use Rattle.std.proofs.Common.{◌≡◌, ◌++◌, take}
use Rattle.clause_blocks.proofs.formula.push_copies.Given as goal

abbrev pub invariant-loop-clause : goal.invariant-loop-clause
invariant-loop-clause l = l.clauses.items ≡ l.initial.clauses.items ++ take l.clause-index l.stored
