use Rattle.std.proofs.Common.{◌≡◌}
use Rattle.clause_blocks.proofs.line_runs.end_of_run.Given as goal

abbrev pub invariant-loop-i : goal.invariant-loop-i
invariant-loop-i l = l.i ≡ l.first → l.clauses ≡ 0
