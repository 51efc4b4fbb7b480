use Rattle.std.proofs.Common.{◌≤◌}
use Rattle.clause_meaning.specs.Starts.{start_of}
use Rattle.clause_meaning.proofs.clause_runs.ClauseRuns.meaning_at.Given as goal

abbrev pub invariant-loop-k : goal.invariant-loop-k
invariant-loop-k l = start_of l.self l.k ≤ l.place
