use Rattle.std.proofs.Common.{◌≡◌, ◌++◌, take}
use Rattle.verdict_report.specs.Pieces.{joined}
use Rattle.verdict_report.proofs.pieces.write_each.Given as goal

abbrev pub invariant-loop-piece : goal.invariant-loop-piece
invariant-loop-piece g l = record {
  written : g.W.Sink.written l.out ≡ g.W.Sink.written l.fn.out ++ joined (take l.piece-index l.pieces);
  failures : g.W.Sink.failures l.out ≡ g.W.Sink.failures l.fn.out;
  same : g.W.Sink.path l.out ≡ g.W.Sink.path l.fn.out;
}
