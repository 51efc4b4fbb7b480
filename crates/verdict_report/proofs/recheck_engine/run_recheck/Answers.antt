use Rattle.std.proofs.Common.{refl, rules, [], ◌∷◌}
use Rattle.std.specs.Prelude.{Ok}
use Rattle.std.proofs.lemmas.Result.{err_from_is_err_and}
use Rattle.verdict_report.specs.Engine.{AtOnce, HandOut, of_two}
use Rattle.verdict_report.specs.RecheckEngine.{IsSaidOfEither, size_line, size_status}
use Rattle.verdict_report.specs.Runs.{SourceRun, SinkRun, source_run, sink_run}
use Rattle.verdict_report.proofs.EngineLemmas.{unread, refused, written}
use Rattle.reason_text.specs.Header.{begins_reasons}
use Rattle.verdict_report.proofs.RecheckLemmas.{none_of_both, shown_either}
use Rattle.verdict_report.proofs.recheck_engine.run_recheck.Goals as goal

pub returns-clause-run : goal.returns-clause-run
returns-clause-run g c =
    let first : SourceRun = source_run g.T.Source.handed_out g.T.Source.is_at_end g.T.Source.failures c.args.trace.now c.read_two.new.first in
    let second : SourceRun = source_run g.C.Source.handed_out g.C.Source.is_at_end g.C.Source.failures c.args.cert.now c.read_two.new.second in
    let out : SinkRun = sink_run g.W.Sink.written g.W.Sink.failures c.args.out.now c.write_size.new.out in
    written (of_two IsSaidOfEither) size_line size_status (first ∷ second ∷ []) out (c.in_ok-trace_text.trace_text.items ∷ c.in_ok-trace_text.cert_text.items ∷ []) (search rules) c.in_ok-size.size (search rules) c.write_size.result c.write_size.ensures.run

pub returns-in_err-trace_text-clause-run : goal.returns-in_err-trace_text-clause-run
returns-in_err-trace_text-clause-run g c =
    let first : SourceRun = source_run g.T.Source.handed_out g.T.Source.is_at_end g.T.Source.failures c.args.trace.now c.read_two.new.first in
    let second : SourceRun = source_run g.C.Source.handed_out g.C.Source.is_at_end g.C.Source.failures c.args.cert.now c.read_two.new.second in
    let out : SinkRun = sink_run g.W.Sink.written g.W.Sink.failures c.args.out.now c.args.out.now in
    let p = err_from_is_err_and c.from_residual.result c.from_residual.ensures.1 in
    rw (p.1, p.2) (unread (of_two IsSaidOfEither) (λ a. size_line a ∷ []) size_status (first ∷ second ∷ []) AtOnce (out ∷ []) ((refl, refl), tt) c.in_err-trace_text.field-0.0 (search rules))

pub returns-in_err-size-clause-run : goal.returns-in_err-size-clause-run
returns-in_err-size-clause-run g c =
    let first : SourceRun = source_run g.T.Source.handed_out g.T.Source.is_at_end g.T.Source.failures c.args.trace.now c.read_two.new.first in
    let second : SourceRun = source_run g.C.Source.handed_out g.C.Source.is_at_end g.C.Source.failures c.args.cert.now c.read_two.new.second in
    let out : SinkRun = sink_run g.W.Sink.written g.W.Sink.failures c.args.out.now c.args.out.now in
    let p = err_from_is_err_and c.from_residual-in_err-size.result c.from_residual-in_err-size.ensures.1 in
    rw (p.1, p.2) (refused (of_two IsSaidOfEither) (λ a. size_line a ∷ []) size_status (first ∷ second ∷ []) AtOnce (out ∷ []) ((refl, refl), tt) (c.in_ok-trace_text.trace_text.items ∷ c.in_ok-trace_text.cert_text.items ∷ []) (search rules) (none_of_both (begins_reasons c.in_ok-trace_text.cert_text.items)) (none_of_both (begins_reasons c.in_ok-trace_text.cert_text.items)) c.in_err-size.field-0.0 (search rules))

pub returns-clause-sound : goal.returns-clause-sound
returns-clause-sound g c =
    let first : SourceRun = source_run g.T.Source.handed_out g.T.Source.is_at_end g.T.Source.failures c.args.trace.now c.read_two.new.first in
    let second : SourceRun = source_run g.C.Source.handed_out g.C.Source.is_at_end g.C.Source.failures c.args.cert.now c.read_two.new.second in
    let handed : HandOut (first ∷ second ∷ []) (c.in_ok-trace_text.trace_text.items ∷ c.in_ok-trace_text.cert_text.items ∷ []) = search rules in
    let accepted : IsSaidOfEither c.in_ok-trace_text.trace_text.items c.in_ok-trace_text.cert_text.items (Ok c.in_ok-size.size) = search rules in
    shown_either first c.in_ok-trace_text.trace_text.items c.in_ok-trace_text.cert_text.items c.in_ok-size.size handed.0.0 accepted c.write_size.result
