use Rattle.std.proofs.Common.{rules, ◌≡◌, ◌≤◌, ◌+◌, ◌++◌, ◌∙◌, refl, ap, subst}
use Rattle.std.specs.List.{flat_map}
use Rattle.dimacs.specs.CnfText.{clause_line}
use Rattle.dimacs.specs.Sink.{AppendsFront, IsSent}
use Rattle.dimacs.proofs.ChunkLemmas.{on_err}
use Rattle.trace_semantics.specs.Trace.{operation_count}
use Rattle.clause_blocks.specs.Pieces.{clauses_in}
use Rattle.clause_blocks.proofs.ClauseList.ListLemmas.{piece_at}
use Rattle.clause_blocks.proofs.InPieces.RangeSentLemmas.{lines_to, range_begun, range_front, range_sent}
use Rattle.clause_blocks.proofs.stream_cnf.put_pieces.Goals as goal

pub loop-k-init : goal.loop-k-init
loop-k-init g c = record {
  sent = range_begun c.args.writer.now (piece_at c.args.clauses.now) c.args.first (g.W.Sink.written c.args.sink.now) c.args.first refl;
  failures = refl;
  same = refl;
}

pub returns-in_err-put_piece-clause-front : goal.returns-in_err-put_piece-clause-front
returns-in_err-put_piece-clause-front g c =
    let t = c.args.clauses.now in
    let high : c.loop-k.k + 1 ≤ c.args.end = search rules in
    let same : clauses_in (operation_count c.layout.result.now) c.piece.result ≡ piece_at t c.loop-k.k = ap (λ u. clauses_in (operation_count u) c.piece.result) c.layout.ensures ∙ c.piece.ensures in
    on_err c.from_residual.result
    (range_front c.args.writer.now (piece_at t) c.args.first c.loop-k.k c.args.end _ _ _ c.loop-k.writer c.loop-k.auto.k high c.loop-k.invariant.sent
    (subst (λ clauses. AppendsFront (g.W.Sink.written c.loop-k.sink) (g.W.Sink.written c.put_piece.new.sink) (c.loop-k.writer ++ flat_map clause_line clauses)) same c.in_err-put_piece.ensures.front))

pub loop-k-preserved : goal.loop-k-preserved
loop-k-preserved g c =
    let t = c.args.clauses.now in
    let same : clauses_in (operation_count c.layout.result.now) c.piece.result ≡ piece_at t c.loop-k.k = ap (λ u. clauses_in (operation_count u) c.piece.result) c.layout.ensures ∙ c.piece.ensures in
    record {
      sent = range_sent c.args.writer.now (piece_at t) c.args.first c.loop-k.k _ _ _ c.loop-k.writer c.put_piece.new.writer c.loop-k.auto.k c.loop-k.invariant.sent
          (subst (λ clauses. IsSent (g.W.Sink.written c.loop-k.sink) (g.W.Sink.written c.put_piece.new.sink) c.put_piece.new.writer (c.loop-k.writer ++ flat_map clause_line clauses)) same c.in_ok-put_piece.ensures.sent);
      failures = c.in_ok-put_piece.ensures.well ∙ c.loop-k.invariant.failures;
      same = c.put_piece.ensures.same ∙ c.loop-k.invariant.same;
    }

pub returns-clause-sent : goal.returns-clause-sent
returns-clause-sent g c =
    let end : c.loop-k.k ≡ c.args.end = search rules in
    subst (λ k. IsSent (g.W.Sink.written c.args.sink.now) (g.W.Sink.written c.loop-k.sink) c.loop-k.writer (lines_to c.args.writer.now (piece_at c.args.clauses.now) c.args.first k)) end c.loop-k.invariant.sent
