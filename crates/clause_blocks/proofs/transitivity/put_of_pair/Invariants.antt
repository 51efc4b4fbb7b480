use Rattle.std.proofs.Common.{◌≡◌, ◌+◌}
use Rattle.dimacs.specs.Sink.{IsSent}
use Rattle.trace_semantics.specs.Trace.{operation_count}
use Rattle.clause_blocks.specs.Blocks.{no_cycle}
use Rattle.clause_blocks.proofs.InPieces.RangeSentLemmas.{lines_to}
use Rattle.clause_blocks.proofs.transitivity.put_of_pair.Given as goal

abbrev pub invariant-loop-k : goal.invariant-loop-k
invariant-loop-k g l = record {
  sent : IsSent (g.W.Sink.written l.fn.sink) (g.W.Sink.written l.sink) l.writer (lines_to l.fn.writer (no_cycle (operation_count l.layout) l.i l.j) (l.j + 1) l.k);
  failures : g.W.Sink.failures l.sink ≡ g.W.Sink.failures l.fn.sink;
  same : g.W.Sink.path l.sink ≡ g.W.Sink.path l.fn.sink;
}
