use Rattle.std.proofs.Common.{refl, rules, [], ◌∷◌, ℕ, List, subst}
use Rattle.std.proofs.lemmas.Result.{err_from_is_err_and}
use Rattle.survey_verdict.specs.Surveyed.{survey_report}
use Rattle.verdict_report.specs.Engine.{AtOnce, of_two}
use Rattle.verdict_report.specs.Runs.{SourceRun, SinkRun, source_run, sink_run}
use Rattle.verdict_report.proofs.EngineLemmas.{unread, refused, written}
use Rattle.survey_report.specs.SurveyEngine.{FollowsFromTexts, IsSaidOfSurvey, status_of_survey, texts_of_survey}
use Rattle.survey_report.proofs.SurveyLemmas.{answered, consistent, inconsistent, said_of_equal, undecided}
use Rattle.survey_report.proofs.survey_engine.run_survey.Goals as goal

pub returns-clause-run : goal.returns-clause-run
returns-clause-run g c =
    let trace : SourceRun = source_run g.T.Source.handed_out g.T.Source.is_at_end g.T.Source.failures c.args.trace.now c.read_two.new.first in
    let hint : SourceRun = source_run g.U.Source.handed_out g.U.Source.is_at_end g.U.Source.failures c.args.hint.now c.read_two.new.second in
    let out : SinkRun = sink_run g.W.Sink.written g.W.Sink.failures c.args.out.now c.write_report.new.out in
    written (of_two IsSaidOfSurvey) survey_report status_of_survey (trace ∷ hint ∷ []) out (c.in_ok-texts.texts.0.items ∷ c.in_ok-texts.texts.1.items ∷ []) (search rules) c.in_ok-surveyed.surveyed (said_of_equal c.as_slice.ensures.value c.as_slice-2.ensures.value c.in_ok-surveyed.surveyed c.in_ok-surveyed.ensures.said) c.write_report.result c.write_report.ensures.run

pub returns-in_err-texts-clause-run : goal.returns-in_err-texts-clause-run
returns-in_err-texts-clause-run g c =
    let trace : SourceRun = source_run g.T.Source.handed_out g.T.Source.is_at_end g.T.Source.failures c.args.trace.now c.read_two.new.first in
    let hint : SourceRun = source_run g.U.Source.handed_out g.U.Source.is_at_end g.U.Source.failures c.args.hint.now c.read_two.new.second in
    let out : SinkRun = sink_run g.W.Sink.written g.W.Sink.failures c.args.out.now c.args.out.now in
    let p = err_from_is_err_and c.from_residual.result c.from_residual.ensures.1 in
    rw (p.1, p.2) (unread (of_two IsSaidOfSurvey) texts_of_survey status_of_survey (trace ∷ hint ∷ []) AtOnce (out ∷ []) ((refl, refl), tt) c.in_err-texts.field-0.0 (search rules))

pub returns-in_err-surveyed-clause-run : goal.returns-in_err-surveyed-clause-run
returns-in_err-surveyed-clause-run g c =
    let trace : SourceRun = source_run g.T.Source.handed_out g.T.Source.is_at_end g.T.Source.failures c.args.trace.now c.read_two.new.first in
    let hint : SourceRun = source_run g.U.Source.handed_out g.U.Source.is_at_end g.U.Source.failures c.args.hint.now c.read_two.new.second in
    let out : SinkRun = sink_run g.W.Sink.written g.W.Sink.failures c.args.out.now c.args.out.now in
    let p = err_from_is_err_and c.from_residual-in_err-surveyed.result c.from_residual-in_err-surveyed.ensures.1 in
    rw (p.1, p.2) (refused (of_two IsSaidOfSurvey) texts_of_survey status_of_survey (trace ∷ hint ∷ []) AtOnce (out ∷ []) ((refl, refl), tt) (c.in_ok-texts.texts.0.items ∷ c.in_ok-texts.texts.1.items ∷ []) (search rules) (λ s. s) (λ s. s) c.in_err-surveyed.field-0.0 (search rules))

pub returns-clause-consistent : goal.returns-clause-consistent
returns-clause-consistent g c =
    let trace : SourceRun = source_run g.T.Source.handed_out g.T.Source.is_at_end g.T.Source.failures c.args.trace.now c.read_two.new.first in
    let out : SinkRun = sink_run g.W.Sink.written g.W.Sink.failures c.args.out.now c.write_report.new.out in
    consistent trace c.in_ok-texts.texts.0.items c.in_ok-texts.ensures.read.0.0 c.args.run.now.options.now out c.written_schedule_spells.ensures c.in_ok-surveyed.surveyed (search rules) c.write_report.result c.write_report.ensures.run

pub returns-clause-inconsistent : goal.returns-clause-inconsistent
returns-clause-inconsistent g c =
    let trace : SourceRun = source_run g.T.Source.handed_out g.T.Source.is_at_end g.T.Source.failures c.args.trace.now c.read_two.new.first in
    let out : SinkRun = sink_run g.W.Sink.written g.W.Sink.failures c.args.out.now c.write_report.new.out in
    inconsistent trace c.in_ok-texts.texts.0.items c.in_ok-texts.ensures.read.0.0 c.args.run.now.options.now out c.written_schedule_spells.ensures c.in_ok-surveyed.surveyed (search rules) c.write_report.result c.write_report.ensures.run

pub returns-clause-unknown : goal.returns-clause-unknown
returns-clause-unknown g c =
    let trace : SourceRun = source_run g.T.Source.handed_out g.T.Source.is_at_end g.T.Source.failures c.args.trace.now c.read_two.new.first in
    let out : SinkRun = sink_run g.W.Sink.written g.W.Sink.failures c.args.out.now c.write_report.new.out in
    undecided trace c.in_ok-texts.texts.0.items c.in_ok-texts.ensures.read.0.0 c.args.run.now.options.now out c.written_schedule_spells.ensures c.in_ok-surveyed.surveyed (search rules) c.write_report.result c.write_report.ensures.run

pub returns-clause-answered : goal.returns-clause-answered
returns-clause-answered g c =
    let trace : SourceRun = source_run g.T.Source.handed_out g.T.Source.is_at_end g.T.Source.failures c.args.trace.now c.read_two.new.first in
    let hint : SourceRun = source_run g.U.Source.handed_out g.U.Source.is_at_end g.U.Source.failures c.args.hint.now c.read_two.new.second in
    let out : SinkRun = sink_run g.W.Sink.written g.W.Sink.failures c.args.out.now c.write_report.new.out in
    answered (g.S.Surveyor.finds c.args.surveyor.now) trace hint c.in_ok-texts.texts.0.items c.in_ok-texts.texts.1.items c.in_ok-texts.ensures.read c.args.run.now.options.now out c.in_ok-surveyed.surveyed
    (subst (λ (read : List ℕ). FollowsFromTexts c.args.run.now.options.now (g.S.Surveyor.finds c.args.surveyor.now) read c.in_ok-texts.texts.1.items c.in_ok-surveyed.surveyed) c.as_slice.ensures.value
    (subst (λ (read : List ℕ). FollowsFromTexts c.args.run.now.options.now (g.S.Surveyor.finds c.args.surveyor.now) c.as_slice.result.now read c.in_ok-surveyed.surveyed) c.as_slice-2.ensures.value c.in_ok-surveyed.ensures.follows)) c.write_report.result c.write_report.ensures.run
