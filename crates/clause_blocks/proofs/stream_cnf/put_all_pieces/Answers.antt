use Rattle.std.proofs.Common.{◌++◌, subst}
use Rattle.std.specs.List.{flat_map}
use Rattle.dimacs.specs.CnfText.{clause_line}
use Rattle.dimacs.specs.Sink.{AppendsFront, IsSent}
use Rattle.dimacs.proofs.ChunkLemmas.{on_err}
use Rattle.clause_blocks.proofs.ClauseList.ListLemmas.{pieces_upto}
use Rattle.clause_blocks.proofs.stream_cnf.put_all_pieces.Goals as goal

pub returns-in_err-put_pieces-clause-front : goal.returns-in_err-put_pieces-clause-front
returns-in_err-put_pieces-clause-front g c =
    on_err c.from_residual.result
    (subst (λ clauses. AppendsFront (g.W.Sink.written c.args.sink.now) (g.W.Sink.written c.put_pieces.new.sink) (c.args.writer.now ++ flat_map clause_line clauses)) (pieces_upto c.args.clauses.now c.pieces.result c.pieces.ensures) c.in_err-put_pieces.ensures.front)

pub returns-clause-sent : goal.returns-clause-sent
returns-clause-sent g c =
    subst (λ clauses. IsSent (g.W.Sink.written c.args.sink.now) (g.W.Sink.written c.put_pieces.new.sink) c.put_pieces.new.writer (c.args.writer.now ++ flat_map clause_line clauses)) (pieces_upto c.args.clauses.now c.pieces.result c.pieces.ensures) c.in_ok-put_pieces.ensures.sent
