use Rattle.std.proofs.Common.{◌≡◌, ◌≤◌, ◌⊎◌, ℕ, take}
use Rattle.writer_table.specs.Runs.{IsIn}
use Rattle.reason_clauses.proofs.own.last_in.Given as goal

abbrev pub invariant-loop-run : goal.invariant-loop-run
invariant-loop-run l = (l.last ≤ l.bound) × ((k : ℕ) → IsIn (take l.run-index l.runs) l.process k → k ≤ l.bound → k ≤ l.last) × ((l.last ≡ 0) ⊎ IsIn (take l.run-index l.runs) l.process l.last)
