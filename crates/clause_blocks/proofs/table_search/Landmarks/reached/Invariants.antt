use Rattle.std.proofs.Common.{◌<◌, ◌≤◌, ◌-◌, get_or}
use Rattle.clause_blocks.proofs.table_search.Landmarks.reached.Given as goal

abbrev pub invariant-loop-high : goal.invariant-loop-high
invariant-loop-high l = record {
  rising : l.low < l.high;
  first : l.first ≤ l.low;
  last : l.high ≤ l.last;
  above : get_or l.table l.low 0 ≤ l.number;
  below : l.number < get_or l.table l.high 0;
}

abbrev pub decreases-loop-high : goal.decreases-loop-high
decreases-loop-high l = l.high - l.low
