use Rattle.std.proofs.Common.{refl, rules, [], ◌∷◌}
use Rattle.std.proofs.lemmas.Result.{err_from_is_err_and}
use Rattle.verdict_report.specs.Engine.{AtOnce, HandOut, of_three}
use Rattle.part_report.specs.PartRecheckEngine.{AreRecheckedByPart, IsSaidByPart}
use Rattle.verdict_report.specs.RecheckEngine.{rechecked_line, rechecked_status}
use Rattle.verdict_report.specs.Runs.{SourceRun, SinkRun, source_run, sink_run}
use Rattle.verdict_report.proofs.EngineLemmas.{unread, refused, written}
use Rattle.part_report.proofs.PartRecheckLemmas.{shown}
use Rattle.part_report.proofs.part_recheck_engine.run_part_recheck.Goals as goal

pub returns-clause-run : goal.returns-clause-run
returns-clause-run g c =
    let first : SourceRun = source_run g.T.Source.handed_out g.T.Source.is_at_end g.T.Source.failures c.args.trace.now c.read_three.new.first in
    let second : SourceRun = source_run g.C.Source.handed_out g.C.Source.is_at_end g.C.Source.failures c.args.cert.now c.read_three.new.second in
    let third : SourceRun = source_run g.N.Source.handed_out g.N.Source.is_at_end g.N.Source.failures c.args.names.now c.read_three.new.third in
    let out : SinkRun = sink_run g.W.Sink.written g.W.Sink.failures c.args.out.now c.write_size.new.out in
    written (of_three IsSaidByPart) rechecked_line rechecked_status (first ∷ second ∷ third ∷ []) out (c.in_ok-trace_text.trace_text.items ∷ c.in_ok-trace_text.cert_text.items ∷ c.in_ok-trace_text.names_text.items ∷ []) (search rules) c.in_ok-count.count (search rules) c.write_size.result c.write_size.ensures.run

pub returns-in_err-trace_text-clause-run : goal.returns-in_err-trace_text-clause-run
returns-in_err-trace_text-clause-run g c =
    let first : SourceRun = source_run g.T.Source.handed_out g.T.Source.is_at_end g.T.Source.failures c.args.trace.now c.read_three.new.first in
    let second : SourceRun = source_run g.C.Source.handed_out g.C.Source.is_at_end g.C.Source.failures c.args.cert.now c.read_three.new.second in
    let third : SourceRun = source_run g.N.Source.handed_out g.N.Source.is_at_end g.N.Source.failures c.args.names.now c.read_three.new.third in
    let out : SinkRun = sink_run g.W.Sink.written g.W.Sink.failures c.args.out.now c.args.out.now in
    let p = err_from_is_err_and c.from_residual.result c.from_residual.ensures.1 in
    rw (p.1, p.2) (unread (of_three IsSaidByPart) (λ a. rechecked_line a ∷ []) rechecked_status (first ∷ second ∷ third ∷ []) AtOnce (out ∷ []) ((refl, refl), tt) c.in_err-trace_text.field-0.0 (search rules))

pub returns-in_err-count-clause-run : goal.returns-in_err-count-clause-run
returns-in_err-count-clause-run g c =
    let first : SourceRun = source_run g.T.Source.handed_out g.T.Source.is_at_end g.T.Source.failures c.args.trace.now c.read_three.new.first in
    let second : SourceRun = source_run g.C.Source.handed_out g.C.Source.is_at_end g.C.Source.failures c.args.cert.now c.read_three.new.second in
    let third : SourceRun = source_run g.N.Source.handed_out g.N.Source.is_at_end g.N.Source.failures c.args.names.now c.read_three.new.third in
    let out : SinkRun = sink_run g.W.Sink.written g.W.Sink.failures c.args.out.now c.args.out.now in
    let p = err_from_is_err_and c.from_residual-in_err-count.result c.from_residual-in_err-count.ensures.1 in
    rw (p.1, p.2) (refused (of_three IsSaidByPart) (λ a. rechecked_line a ∷ []) rechecked_status (first ∷ second ∷ third ∷ []) AtOnce (out ∷ []) ((refl, refl), tt) (c.in_ok-trace_text.trace_text.items ∷ c.in_ok-trace_text.cert_text.items ∷ c.in_ok-trace_text.names_text.items ∷ []) (search rules) (λ s. s) (λ s. s) c.in_err-count.field-0.0 (search rules))

pub returns-clause-sound : goal.returns-clause-sound
returns-clause-sound g c =
    let first : SourceRun = source_run g.T.Source.handed_out g.T.Source.is_at_end g.T.Source.failures c.args.trace.now c.read_three.new.first in
    let second : SourceRun = source_run g.C.Source.handed_out g.C.Source.is_at_end g.C.Source.failures c.args.cert.now c.read_three.new.second in
    let third : SourceRun = source_run g.N.Source.handed_out g.N.Source.is_at_end g.N.Source.failures c.args.names.now c.read_three.new.third in
    let handed : HandOut (first ∷ second ∷ third ∷ []) (c.in_ok-trace_text.trace_text.items ∷ c.in_ok-trace_text.cert_text.items ∷ c.in_ok-trace_text.names_text.items ∷ []) = search rules in
    let accepted : AreRecheckedByPart c.in_ok-trace_text.trace_text.items c.in_ok-trace_text.cert_text.items c.in_ok-trace_text.names_text.items c.in_ok-count.count = search rules in
    shown first c.in_ok-trace_text.trace_text.items c.in_ok-trace_text.cert_text.items c.in_ok-trace_text.names_text.items c.in_ok-count.count handed.0.0 accepted c.write_size.result
