use Rattle.std.proofs.Common.{refl, rules, [], ◌∷◌}
use Rattle.std.proofs.lemmas.Result.{err_from_is_err_and}
use Rattle.verdict_report.specs.Engine.{AtOnce, of_two}
use Rattle.schedule_text.specs.ScheduleWritten.{canonical_schedule}
use Rattle.verdict_report.specs.DecodeEngine.{IsSaidOfModel, written_status}
use Rattle.verdict_report.specs.Runs.{SourceRun, SinkRun, source_run, sink_run}
use Rattle.verdict_report.proofs.EngineLemmas.{unread, refused, written}
use Rattle.verdict_report.proofs.decode_engine.run_decode.Goals as goal

pub returns-clause-run : goal.returns-clause-run
returns-clause-run g c =
    let first : SourceRun = source_run g.T.Source.handed_out g.T.Source.is_at_end g.T.Source.failures c.args.trace.now c.read_two.new.first in
    let second : SourceRun = source_run g.M.Source.handed_out g.M.Source.is_at_end g.M.Source.failures c.args.model.now c.read_two.new.second in
    let out : SinkRun = sink_run g.W.Sink.written g.W.Sink.failures c.args.out.now c.write_names.new.out in
    written (of_two IsSaidOfModel) canonical_schedule written_status (first ∷ second ∷ []) out (c.in_ok-texts.texts.0.items ∷ c.in_ok-texts.texts.1.items ∷ []) (search rules) c.in_ok-schedule.schedule (search rules) c.write_names.result c.write_names.ensures.run

pub returns-in_err-texts-clause-run : goal.returns-in_err-texts-clause-run
returns-in_err-texts-clause-run g c =
    let first : SourceRun = source_run g.T.Source.handed_out g.T.Source.is_at_end g.T.Source.failures c.args.trace.now c.read_two.new.first in
    let second : SourceRun = source_run g.M.Source.handed_out g.M.Source.is_at_end g.M.Source.failures c.args.model.now c.read_two.new.second in
    let out : SinkRun = sink_run g.W.Sink.written g.W.Sink.failures c.args.out.now c.args.out.now in
    let p = err_from_is_err_and c.from_residual.result c.from_residual.ensures.1 in
    rw (p.1, p.2) (unread (of_two IsSaidOfModel) (λ a. canonical_schedule a ∷ []) written_status (first ∷ second ∷ []) AtOnce (out ∷ []) ((refl, refl), tt) c.in_err-texts.field-0.0 (search rules))

pub returns-in_err-schedule-clause-run : goal.returns-in_err-schedule-clause-run
returns-in_err-schedule-clause-run g c =
    let first : SourceRun = source_run g.T.Source.handed_out g.T.Source.is_at_end g.T.Source.failures c.args.trace.now c.read_two.new.first in
    let second : SourceRun = source_run g.M.Source.handed_out g.M.Source.is_at_end g.M.Source.failures c.args.model.now c.read_two.new.second in
    let out : SinkRun = sink_run g.W.Sink.written g.W.Sink.failures c.args.out.now c.args.out.now in
    let p = err_from_is_err_and c.from_residual-in_err-schedule.result c.from_residual-in_err-schedule.ensures.1 in
    rw (p.1, p.2) (refused (of_two IsSaidOfModel) (λ a. canonical_schedule a ∷ []) written_status (first ∷ second ∷ []) AtOnce (out ∷ []) ((refl, refl), tt) (c.in_ok-texts.texts.0.items ∷ c.in_ok-texts.texts.1.items ∷ []) (search rules) (λ s. s) (λ s. s) c.in_err-schedule.field-0.0 (search rules))
