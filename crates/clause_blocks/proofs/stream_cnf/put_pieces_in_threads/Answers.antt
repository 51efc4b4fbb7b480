use Rattle.std.proofs.Common.{◌++◌, length, refl, subst}
use Rattle.std.specs.List.{flat_map}
use Rattle.dimacs.specs.CnfText.{clause_line}
use Rattle.dimacs.specs.Sink.{AppendsFront, IsSent}
use Rattle.dimacs.proofs.ChunkLemmas.{on_err}
use Rattle.trace_semantics.specs.Trace.{operation_count}
use Rattle.clause_blocks.specs.Blocks.{transitivity}
use Rattle.clause_blocks.specs.Clauses.{pieces}
use Rattle.clause_blocks.proofs.ClauseList.FamilyLemmas.{before_front, triples_front, after_front, after_sent}
use Rattle.clause_blocks.proofs.stream_cnf.put_pieces_in_threads.Goals as goal

pub returns-in_err-put_pieces-clause-front : goal.returns-in_err-put_pieces-clause-front
returns-in_err-put_pieces-clause-front g c =
    let t = c.args.clauses.now in
    on_err c.from_residual.result
    (before_front t c.args.writer.now c.piece_of_transitivity-transitivity.result c.piece_of_reads-reads.result (length (pieces t)) c.piece_of_transitivity-transitivity.ensures.number c.piece_of_reads-reads.ensures.number refl _ _ c.in_err-put_pieces.ensures.front)

pub returns-in_err-put_transitivity_in_threads-clause-front : goal.returns-in_err-put_transitivity_in_threads-clause-front
returns-in_err-put_transitivity_in_threads-clause-front g c =
    let t = c.args.clauses.now in
    on_err c.from_residual-in_err-put_transitivity_in_threads.result
    (triples_front t c.args.writer.now c.piece_of_transitivity-transitivity.result c.piece_of_reads-reads.result (length (pieces t)) c.piece_of_transitivity-transitivity.ensures.number c.piece_of_reads-reads.ensures.number refl _ _ _ c.put_pieces.new.writer
    c.in_ok-put_pieces.ensures.sent
    (subst (λ u. AppendsFront (g.W.Sink.written c.put_pieces.new.sink) (g.W.Sink.written c.put_transitivity_in_threads.new.sink) (c.put_pieces.new.writer ++ flat_map clause_line (transitivity (operation_count u)))) c.layout.ensures c.in_err-put_transitivity_in_threads.ensures.front))

pub returns-in_err-put_pieces-2-clause-front : goal.returns-in_err-put_pieces-2-clause-front
returns-in_err-put_pieces-2-clause-front g c =
    let t = c.args.clauses.now in
    on_err c.from_residual-in_err-put_pieces-2.result
    (after_front t c.args.writer.now c.piece_of_transitivity-transitivity.result c.piece_of_reads-reads.result c.pieces.result c.piece_of_transitivity-transitivity.ensures.number c.piece_of_reads-reads.ensures.number c.pieces.ensures _ _ _ _ c.put_pieces.new.writer c.put_transitivity_in_threads.new.writer
    c.in_ok-put_pieces.ensures.sent
    (subst (λ u. IsSent (g.W.Sink.written c.put_pieces.new.sink) (g.W.Sink.written c.put_transitivity_in_threads.new.sink) c.put_transitivity_in_threads.new.writer (c.put_pieces.new.writer ++ flat_map clause_line (transitivity (operation_count u)))) c.layout.ensures c.in_ok-put_transitivity_in_threads.ensures.sent)
    c.in_err-put_pieces-2.ensures.front)

pub returns-clause-sent : goal.returns-clause-sent
returns-clause-sent g c =
    let t = c.args.clauses.now in
    after_sent t c.args.writer.now c.piece_of_transitivity-transitivity.result c.piece_of_reads-reads.result c.pieces.result c.piece_of_transitivity-transitivity.ensures.number c.piece_of_reads-reads.ensures.number c.pieces.ensures _ _ _ _ c.put_pieces.new.writer c.put_transitivity_in_threads.new.writer
    c.in_ok-put_pieces.ensures.sent
    (subst (λ u. IsSent (g.W.Sink.written c.put_pieces.new.sink) (g.W.Sink.written c.put_transitivity_in_threads.new.sink) c.put_transitivity_in_threads.new.writer (c.put_pieces.new.writer ++ flat_map clause_line (transitivity (operation_count u)))) c.layout.ensures c.in_ok-put_transitivity_in_threads.ensures.sent)
    c.put_pieces-2.new.writer c.in_ok-put_pieces-2.ensures.sent
