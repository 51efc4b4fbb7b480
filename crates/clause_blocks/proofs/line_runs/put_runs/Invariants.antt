use Rattle.std.proofs.Common.{◌≡◌, ◌++◌, take}
use Rattle.std.specs.List.{flat_map}
use Rattle.dimacs.specs.Sink.{IsSent}
use Rattle.clause_blocks.specs.LineRuns.{lines_in}
use Rattle.clause_blocks.proofs.line_runs.put_runs.Given as goal

abbrev pub invariant-loop-run : goal.invariant-loop-run
invariant-loop-run g l = record {
  sent : IsSent (g.W.Sink.written l.fn.sink) (g.W.Sink.written l.sink) l.writer (l.fn.writer ++ flat_map lines_in (take l.run-index l.runs));
  failures : g.W.Sink.failures l.sink ≡ g.W.Sink.failures l.fn.sink;
  same : g.W.Sink.path l.sink ≡ g.W.Sink.path l.fn.sink;
}
