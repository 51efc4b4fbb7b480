use Rattle.std.proofs.Common.{length}
use Rattle.reason_check.proofs.ReadSoFar.{AreReadSoFar}
use Rattle.reason_check.proofs.clause_lines.read_clauses.Given as goal

abbrev pub invariant-loop-line : goal.invariant-loop-line
invariant-loop-line l = AreReadSoFar l.trace l.text l.rest l.before l.list

abbrev pub decreases-loop-line : goal.decreases-loop-line
decreases-loop-line l = length l.rest
