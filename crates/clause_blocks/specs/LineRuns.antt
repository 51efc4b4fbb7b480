-- Runs of neighbouring operations, and the lines of clauses that were made of them.
use Rattle.std.specs.Prelude.{ℕ, ◌-◌, List}
use Rattle.std.specs.List.{range_with_len}
use Rattle.clause_blocks.specs.declared.line_run.LineRun.{LineRun}

-- the operations of a run
abbrev pub neighbours_in : LineRun → List ℕ
neighbours_in run = range_with_len run.first (run.end - run.first)

-- the bytes of its lines
abbrev pub lines_in : LineRun → List ℕ
lines_in run = run.lines
