use Rattle.std.proofs.Common.{rules, ◌+◌, ◌∙◌, ◌<◌, ◌++◌, length, refl, subst}
use Rattle.dimacs.specs.Sink.{AppendsFront, IsSent}
use Rattle.dimacs.proofs.ChunkLemmas.{line_sent, lines_part, sent_on, on_err}
use Rattle.clause_blocks.specs.LineRuns.{lines_in}
use Rattle.clause_blocks.proofs.line_runs.put_runs.Goals as goal

pub returns-in_err-put_text-clause-front : goal.returns-in_err-put_text-clause-front
returns-in_err-put_text-clause-front g c =
    let within : c.loop-run.run-index < length c.args.runs.now = search rules in
    let sent = line_sent c.args.writer.now lines_in c.args.runs.now (g.W.Sink.written c.args.sink.now) (g.W.Sink.written c.loop-run.sink) c.loop-run.writer (c.loop-run.writer ++ lines_in c.run-item.result) c.loop-run.run-index c.run-item.result within c.run-item.is c.loop-run.invariant.sent refl in
    on_err c.from_residual.result
    (lines_part c.args.writer.now lines_in c.args.runs.now _ _ _ _ (c.loop-run.run-index + 1) sent
    (subst (λ lines. AppendsFront (g.W.Sink.written c.loop-run.sink) (g.W.Sink.written c.put_text.new.sink) (c.loop-run.writer ++ lines)) c.lines.ensures c.in_err-put_text.ensures.front))

pub loop-run-preserved : goal.loop-run-preserved
loop-run-preserved g c =
    let within : c.loop-run.run-index < length c.args.runs.now = search rules in
    let sent = line_sent c.args.writer.now lines_in c.args.runs.now (g.W.Sink.written c.args.sink.now) (g.W.Sink.written c.loop-run.sink) c.loop-run.writer (c.loop-run.writer ++ lines_in c.run-item.result) c.loop-run.run-index c.run-item.result within c.run-item.is c.loop-run.invariant.sent refl in
    record {
      sent = sent_on _ _ _ _ _ _ sent
          (subst (λ lines. IsSent (g.W.Sink.written c.loop-run.sink) (g.W.Sink.written c.put_text.new.sink) c.put_text.new.self (c.loop-run.writer ++ lines)) c.lines.ensures c.in_ok-put_text.ensures.sent);
      failures = c.in_ok-put_text.ensures.well ∙ c.loop-run.invariant.failures;
      same = c.put_text.ensures.same ∙ c.loop-run.invariant.same;
    }
