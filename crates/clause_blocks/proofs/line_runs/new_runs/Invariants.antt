use Rattle.std.proofs.Common.{◌≡◌, length}
use Rattle.clause_blocks.proofs.line_runs.new_runs.Given as goal

abbrev pub invariant-loop-worker : goal.invariant-loop-worker
invariant-loop-worker l = length l.runs.items ≡ l._worker
