use Rattle.std.proofs.Common.{◌≡◌, ◌<◌, ◌≤◌, ◌-◌, take}
use Rattle.std.specs.List.{flat_map, range_with_len}
use Rattle.clause_blocks.specs.LineRuns.{neighbours_in}
use Rattle.clause_blocks.proofs.line_runs.share_operations.Given as goal

abbrev pub invariant-loop-run : goal.invariant-loop-run
invariant-loop-run l = record {
  low : l.first ≤ l.start;
  some : l.first < l.operations → 0 < l.run-index → l.first < l.start;
  high : l.start ≤ l.operations;
  shared : flat_map neighbours_in (take l.run-index l.runs) ≡ range_with_len l.first (l.start - l.first);
}
