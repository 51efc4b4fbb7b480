use Rattle.std.proofs.Common.{rules, ◌≡◌, ◌∙◌, ◌+◌, ◌<◌, ◌++◌, length, take, refl, subst}
use Rattle.dimacs.specs.CnfText.{clause_line}
use Rattle.dimacs.specs.Sink.{AppendsFront, IsSent}
use Rattle.dimacs.proofs.ChunkLemmas.{line_sent, lines_part, sent_on, on_err}
use Rattle.dimacs.proofs.cnf_writer.put_clauses.Goals as goal

pub returns-in_err-end-clause-front : goal.returns-in_err-end-clause-front
returns-in_err-end-clause-front g c =
    let within : c.loop-clause.clause-index < length c.args.clauses.now = search rules in
    let head = take c.args.at c.args.buffer.now in
    let kept = take c.loop-clause.end c.loop-clause.buffer in
    let sent = line_sent head clause_line c.args.clauses.now (g.W.Sink.written c.args.sink.now) (g.W.Sink.written c.loop-clause.sink) kept (kept ++ clause_line c.clause-item.result) c.loop-clause.clause-index c.clause-item.result within c.clause-item.is c.loop-clause.invariant.sent refl in
    let line : c.as_slice.result.now ≡ c.clause-item.result = c.as_slice.ensures.literals in
    on_err c.from_residual.result
    (lines_part head clause_line c.args.clauses.now _ _ _ _ (c.loop-clause.clause-index + 1) sent
    (subst (λ literals. AppendsFront (g.W.Sink.written c.loop-clause.sink) (g.W.Sink.written c.put_line.new.sink) (kept ++ clause_line literals)) line c.in_err-end.ensures.front))

pub loop-clause-preserved : goal.loop-clause-preserved
loop-clause-preserved g c =
    let within : c.loop-clause.clause-index < length c.args.clauses.now = search rules in
    let kept = take c.loop-clause.end c.loop-clause.buffer in
    let sent = line_sent (take c.args.at c.args.buffer.now) clause_line c.args.clauses.now (g.W.Sink.written c.args.sink.now) (g.W.Sink.written c.loop-clause.sink) kept (kept ++ clause_line c.clause-item.result) c.loop-clause.clause-index c.clause-item.result within c.clause-item.is c.loop-clause.invariant.sent refl in
    let line : c.as_slice.result.now ≡ c.clause-item.result = c.as_slice.ensures.literals in
    record {
      within = c.in_ok-end.ensures.within;
      sent = sent_on _ _ _ _ _ _ sent
          (subst (λ literals. IsSent (g.W.Sink.written c.loop-clause.sink) (g.W.Sink.written c.put_line.new.sink) (take c.in_ok-end.end c.put_line.new.buffer) (kept ++ clause_line literals)) line c.in_ok-end.ensures.sent);
      failures = c.in_ok-end.ensures.well ∙ c.loop-clause.invariant.failures;
      same = c.put_line.ensures.same ∙ c.loop-clause.invariant.same;
    }
