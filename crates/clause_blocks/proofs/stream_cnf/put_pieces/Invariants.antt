use Rattle.std.proofs.Common.{◌≡◌}
use Rattle.dimacs.specs.Sink.{IsSent}
use Rattle.clause_blocks.proofs.ClauseList.ListLemmas.{piece_at}
use Rattle.clause_blocks.proofs.InPieces.RangeSentLemmas.{lines_to}
use Rattle.clause_blocks.proofs.stream_cnf.put_pieces.Given as goal

abbrev pub invariant-loop-k : goal.invariant-loop-k
invariant-loop-k g l = record {
  sent : IsSent (g.W.Sink.written l.fn.sink) (g.W.Sink.written l.sink) l.writer (lines_to l.fn.writer (piece_at l.clauses) l.first l.k);
  failures : g.W.Sink.failures l.sink ≡ g.W.Sink.failures l.fn.sink;
  same : g.W.Sink.path l.sink ≡ g.W.Sink.path l.fn.sink;
}
