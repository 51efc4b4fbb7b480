use Rattle.std.proofs.Common.{[]}
use Rattle.dimacs.proofs.ChunkLemmas.{on_err}
use Rattle.verdict_report.proofs.PieceLemmas.{front_of_pieces}
use Rattle.verdict_report.proofs.pieces.write_each.Goals as goal

pub returns-in_err-write_whole-clause-front : goal.returns-in_err-write_whole-clause-front
returns-in_err-write_whole-clause-front g c =
    on_err c.from_residual.result
    (front_of_pieces (g.W.Sink.written c.args.out.now) (g.W.Sink.written c.loop-piece.out) (g.W.Sink.written c.write_whole.new.sink) c.args.pieces.now c.loop-piece.piece-index
    (record { ref_ptr = (0, 0); now = [] }) c.loop-piece-test.true c.loop-piece.invariant.written c.in_err-write_whole.ensures.front)
