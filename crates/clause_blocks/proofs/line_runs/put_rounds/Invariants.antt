use Rattle.std.proofs.Common.{◌≡◌, ◌<◌, ◌≤◌, ◌-◌, length}
use Rattle.dimacs.specs.Sink.{IsSent}
use Rattle.trace_semantics.specs.Trace.{operation_count}
use Rattle.clause_blocks.specs.Blocks.{transitivity_from}
use Rattle.clause_blocks.proofs.InPieces.RangeSentLemmas.{lines_to}
use Rattle.clause_blocks.proofs.line_runs.put_rounds.Given as goal

abbrev pub invariant-loop-first : goal.invariant-loop-first
invariant-loop-first g l = record {
  sent : IsSent (g.W.Sink.written l.fn.sink) (g.W.Sink.written l.sink) l.writer (lines_to l.fn.writer (transitivity_from (operation_count l.layout)) 0 l.first);
  failures : g.W.Sink.failures l.sink ≡ g.W.Sink.failures l.fn.sink;
  same : g.W.Sink.path l.sink ≡ g.W.Sink.path l.fn.sink;
  high : l.first ≤ l.operations;
  runs : 0 < length l.runs;
}

abbrev pub decreases-loop-first : goal.decreases-loop-first
decreases-loop-first g l = l.operations - l.first
