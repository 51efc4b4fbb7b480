use Rattle.std.proofs.Common.{◌≡◌, ◌+◌}
use Rattle.dimacs.specs.Sink.{IsSent}
use Rattle.trace_semantics.specs.Trace.{operation_count}
use Rattle.clause_blocks.proofs.InPieces.RangeSentLemmas.{lines_to, of_pair}
use Rattle.clause_blocks.proofs.transitivity.put_transitivity_from.Given as goal

abbrev pub invariant-loop-j : goal.invariant-loop-j
invariant-loop-j g l = record {
  sent : IsSent (g.W.Sink.written l.fn.sink) (g.W.Sink.written l.sink) l.writer (lines_to l.fn.writer (of_pair (operation_count l.layout) l.i) (l.i + 1) l.j);
  failures : g.W.Sink.failures l.sink ≡ g.W.Sink.failures l.fn.sink;
  same : g.W.Sink.path l.sink ≡ g.W.Sink.path l.fn.sink;
}
