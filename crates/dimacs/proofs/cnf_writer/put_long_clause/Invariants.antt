use Rattle.std.proofs.Common.{◌≡◌, ◌≤◌, ◌++◌, length, take}
use Rattle.std.specs.List.{flat_map}
use Rattle.dimacs.specs.CnfText.{literal_text}
use Rattle.dimacs.specs.Sink.{IsSent}
use Rattle.dimacs.proofs.cnf_writer.put_long_clause.Given as goal

abbrev pub invariant-loop-literal : goal.invariant-loop-literal
invariant-loop-literal g l = record {
  within : l.end ≤ length l.buffer;
  sent : IsSent (g.W.Sink.written l.fn.sink) (g.W.Sink.written l.sink) (take l.end l.buffer) (take l.at l.fn.buffer ++ flat_map literal_text (take l.literal-index l.literals));
  failures : g.W.Sink.failures l.sink ≡ g.W.Sink.failures l.fn.sink;
  same : g.W.Sink.path l.sink ≡ g.W.Sink.path l.fn.sink;
}
