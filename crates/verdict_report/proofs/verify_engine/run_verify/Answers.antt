use Rattle.std.proofs.Common.{refl, rules, [], ◌∷◌}
use Rattle.std.proofs.lemmas.Result.{err_from_is_err_and}
use Rattle.trace_decision.specs.Decision.{report}
use Rattle.verdict_report.specs.Engine.{AtOnce, of_one}
use Rattle.verdict_report.specs.Runs.{SourceRun, SinkRun, source_run, sink_run}
use Rattle.verdict_report.specs.VerifyEngine.{IsSaidOfTrace, status_of_decision, texts_of_decision}
use Rattle.verdict_report.proofs.EngineLemmas.{unread, refused, written}
use Rattle.verdict_report.proofs.VerifyLemmas.{consistent, inconsistent, unknown}
use Rattle.verdict_report.proofs.verify_engine.run_verify.Goals as goal

pub returns-clause-run : goal.returns-clause-run
returns-clause-run g c =
    let trace : SourceRun = source_run g.T.Source.handed_out g.T.Source.is_at_end g.T.Source.failures c.args.trace.now c.read_one.new.source in
    let out : SinkRun = sink_run g.W.Sink.written g.W.Sink.failures c.args.out.now c.write_report.new.out in
    written (of_one IsSaidOfTrace) report status_of_decision (trace ∷ []) out (c.in_ok-text.text.items ∷ []) (search rules) c.in_ok-decision.decision (search rules) c.write_report.result c.write_report.ensures.run

pub returns-in_err-text-clause-run : goal.returns-in_err-text-clause-run
returns-in_err-text-clause-run g c =
    let trace : SourceRun = source_run g.T.Source.handed_out g.T.Source.is_at_end g.T.Source.failures c.args.trace.now c.read_one.new.source in
    let out : SinkRun = sink_run g.W.Sink.written g.W.Sink.failures c.args.out.now c.args.out.now in
    let p = err_from_is_err_and c.from_residual.result c.from_residual.ensures.1 in
    rw (p.1, p.2) (unread (of_one IsSaidOfTrace) texts_of_decision status_of_decision (trace ∷ []) AtOnce (out ∷ []) ((refl, refl), tt) c.in_err-text.field-0.0 (search rules))

pub returns-in_err-decision-clause-run : goal.returns-in_err-decision-clause-run
returns-in_err-decision-clause-run g c =
    let trace : SourceRun = source_run g.T.Source.handed_out g.T.Source.is_at_end g.T.Source.failures c.args.trace.now c.read_one.new.source in
    let out : SinkRun = sink_run g.W.Sink.written g.W.Sink.failures c.args.out.now c.args.out.now in
    let p = err_from_is_err_and c.from_residual-in_err-decision.result c.from_residual-in_err-decision.ensures.1 in
    rw (p.1, p.2) (refused (of_one IsSaidOfTrace) texts_of_decision status_of_decision (trace ∷ []) AtOnce (out ∷ []) ((refl, refl), tt) (c.in_ok-text.text.items ∷ []) (search rules) (λ s. s) (λ s. s) c.in_err-decision.field-0.0 (search rules))

pub returns-clause-consistent : goal.returns-clause-consistent
returns-clause-consistent g c =
    let trace : SourceRun = source_run g.T.Source.handed_out g.T.Source.is_at_end g.T.Source.failures c.args.trace.now c.read_one.new.source in
    let out : SinkRun = sink_run g.W.Sink.written g.W.Sink.failures c.args.out.now c.write_report.new.out in
    consistent c.args.options.now trace c.in_ok-text.text.items (search rules) out c.in_ok-decision.decision (search rules) c.write_report.result c.write_report.ensures.run

pub returns-clause-inconsistent : goal.returns-clause-inconsistent
returns-clause-inconsistent g c =
    let trace : SourceRun = source_run g.T.Source.handed_out g.T.Source.is_at_end g.T.Source.failures c.args.trace.now c.read_one.new.source in
    let out : SinkRun = sink_run g.W.Sink.written g.W.Sink.failures c.args.out.now c.write_report.new.out in
    inconsistent c.args.options.now trace c.in_ok-text.text.items (search rules) out c.in_ok-decision.decision (search rules) c.write_report.result c.write_report.ensures.run

pub returns-clause-unknown : goal.returns-clause-unknown
returns-clause-unknown g c =
    let trace : SourceRun = source_run g.T.Source.handed_out g.T.Source.is_at_end g.T.Source.failures c.args.trace.now c.read_one.new.source in
    let out : SinkRun = sink_run g.W.Sink.written g.W.Sink.failures c.args.out.now c.write_report.new.out in
    unknown c.args.options.now trace c.in_ok-text.text.items (search rules) out c.in_ok-decision.decision (search rules) c.write_report.result c.write_report.ensures.run
