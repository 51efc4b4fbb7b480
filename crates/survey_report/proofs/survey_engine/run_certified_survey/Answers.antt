use Rattle.std.proofs.Common.{refl, rules, [], ◌∷◌, ℕ, List, subst}
use Rattle.std.proofs.lemmas.Result.{err_from_is_err_and}
use Rattle.verdict_report.specs.Engine.{InPieces, of_two}
use Rattle.verdict_report.specs.Runs.{SourceRun, SinkRun, source_run, sink_run}
use Rattle.verdict_report.proofs.EngineLemmas.{unread, refused}
use Rattle.survey_report.specs.SurveyEngine.{FollowsFromTexts, IsSaidOfSurvey, status_of_survey, texts_with_core}
use Rattle.survey_report.proofs.SurveyLemmas.{answered, cert_cut_off, certified, consistent, names_cut_off, part_cut_off, report_written, said_of_equal, silent, undecided}
use Rattle.survey_report.proofs.survey_engine.run_certified_survey.Goals as goal

pub returns-clause-run : goal.returns-clause-run
returns-clause-run g c =
    let trace : SourceRun = source_run g.T.Source.handed_out g.T.Source.is_at_end g.T.Source.failures c.args.trace.now c.read_two.new.first in
    let hint : SourceRun = source_run g.U.Source.handed_out g.U.Source.is_at_end g.U.Source.failures c.args.hint.now c.read_two.new.second in
    let cert : SinkRun = sink_run g.C.Sink.written g.C.Sink.failures c.args.sinks.now.cert c.write_survey_certificate.new.sink in
    let names : SinkRun = sink_run g.N.Sink.written g.N.Sink.failures c.args.sinks.now.names c.write_names.new.names in
    let part : SinkRun = sink_run g.P.Sink.written g.P.Sink.failures c.args.sinks.now.part c.write_core_part.new.part in
    let out : SinkRun = sink_run g.W.Sink.written g.W.Sink.failures c.args.out.now c.write_report.new.out in
    report_written trace hint cert names part out c.in_ok-texts.texts.0.items c.in_ok-texts.texts.1.items c.in_ok-texts.ensures.read c.in_ok-surveyed.surveyed (said_of_equal c.as_slice.ensures.value c.as_slice-2.ensures.value c.in_ok-surveyed.surveyed c.in_ok-surveyed.ensures.said)
    (c.in_ok-write_survey_certificate.ensures.whole, c.in_ok-write_survey_certificate.ensures.well) (c.in_ok-write_names.ensures.whole, c.in_ok-write_names.ensures.well) (c.in_ok-write_core_part.ensures.whole, c.in_ok-write_core_part.ensures.well) c.write_report.result c.write_report.ensures.run

pub returns-clause-consistent : goal.returns-clause-consistent
returns-clause-consistent g c =
    let trace : SourceRun = source_run g.T.Source.handed_out g.T.Source.is_at_end g.T.Source.failures c.args.trace.now c.read_two.new.first in
    let out : SinkRun = sink_run g.W.Sink.written g.W.Sink.failures c.args.out.now c.write_report.new.out in
    consistent trace c.in_ok-texts.texts.0.items c.in_ok-texts.ensures.read.0.0 c.args.run.now.options.now out c.written_schedule_spells.ensures c.in_ok-surveyed.surveyed (search rules) c.write_report.result c.write_report.ensures.run

pub returns-clause-unknown : goal.returns-clause-unknown
returns-clause-unknown g c =
    let trace : SourceRun = source_run g.T.Source.handed_out g.T.Source.is_at_end g.T.Source.failures c.args.trace.now c.read_two.new.first in
    let out : SinkRun = sink_run g.W.Sink.written g.W.Sink.failures c.args.out.now c.write_report.new.out in
    undecided trace c.in_ok-texts.texts.0.items c.in_ok-texts.ensures.read.0.0 c.args.run.now.options.now out c.written_schedule_spells.ensures c.in_ok-surveyed.surveyed (search rules) c.write_report.result c.write_report.ensures.run

pub returns-clause-certified : goal.returns-clause-certified
returns-clause-certified g c =
    let trace : SourceRun = source_run g.T.Source.handed_out g.T.Source.is_at_end g.T.Source.failures c.args.trace.now c.read_two.new.first in
    let cert : SinkRun = sink_run g.C.Sink.written g.C.Sink.failures c.args.sinks.now.cert c.write_survey_certificate.new.sink in
    let names : SinkRun = sink_run g.N.Sink.written g.N.Sink.failures c.args.sinks.now.names c.write_names.new.names in
    let part : SinkRun = sink_run g.P.Sink.written g.P.Sink.failures c.args.sinks.now.part c.write_core_part.new.part in
    let out : SinkRun = sink_run g.W.Sink.written g.W.Sink.failures c.args.out.now c.write_report.new.out in
    certified trace cert names part out c.in_ok-texts.texts.0.items c.in_ok-texts.ensures.read.0.0 c.args.run.now.options.now c.certificate_is_accepted.ensures.spelled c.certificate_is_accepted.ensures.accepted c.core_certificate_is_accepted.ensures c.core_part_spells.ensures c.core_names_spell.ensures c.core_part_is_a_trace.ensures
    c.in_ok-surveyed.surveyed (search rules) c.in_ok-write_survey_certificate.ensures.whole c.in_ok-write_names.ensures.whole c.in_ok-write_core_part.ensures.whole c.write_report.result c.write_report.ensures.run

pub returns-clause-silent : goal.returns-clause-silent
returns-clause-silent g c =
    let cert : SinkRun = sink_run g.C.Sink.written g.C.Sink.failures c.args.sinks.now.cert c.write_survey_certificate.new.sink in
    let names : SinkRun = sink_run g.N.Sink.written g.N.Sink.failures c.args.sinks.now.names c.write_names.new.names in
    let part : SinkRun = sink_run g.P.Sink.written g.P.Sink.failures c.args.sinks.now.part c.write_core_part.new.part in
    let out : SinkRun = sink_run g.W.Sink.written g.W.Sink.failures c.args.out.now c.write_report.new.out in
    silent cert names part c.in_ok-surveyed.surveyed (c.in_ok-write_survey_certificate.ensures.whole, c.in_ok-write_survey_certificate.ensures.well) (c.in_ok-write_names.ensures.whole, c.in_ok-write_names.ensures.well) (c.in_ok-write_core_part.ensures.whole, c.in_ok-write_core_part.ensures.well) out c.write_report.result c.write_report.ensures.run

pub returns-in_err-texts-clause-run : goal.returns-in_err-texts-clause-run
returns-in_err-texts-clause-run g c =
    let trace : SourceRun = source_run g.T.Source.handed_out g.T.Source.is_at_end g.T.Source.failures c.args.trace.now c.read_two.new.first in
    let hint : SourceRun = source_run g.U.Source.handed_out g.U.Source.is_at_end g.U.Source.failures c.args.hint.now c.read_two.new.second in
    let cert : SinkRun = sink_run g.C.Sink.written g.C.Sink.failures c.args.sinks.now.cert c.args.sinks.now.cert in
    let names : SinkRun = sink_run g.N.Sink.written g.N.Sink.failures c.args.sinks.now.names c.args.sinks.now.names in
    let part : SinkRun = sink_run g.P.Sink.written g.P.Sink.failures c.args.sinks.now.part c.args.sinks.now.part in
    let out : SinkRun = sink_run g.W.Sink.written g.W.Sink.failures c.args.out.now c.args.out.now in
    let p = err_from_is_err_and c.from_residual.result c.from_residual.ensures.1 in
    rw (p.1, p.2) (unread (of_two IsSaidOfSurvey) texts_with_core status_of_survey (trace ∷ hint ∷ []) InPieces (cert ∷ names ∷ part ∷ out ∷ []) ((refl, refl), ((refl, refl), ((refl, refl), ((refl, refl), tt)))) c.in_err-texts.field-0.0 (search rules))

pub returns-in_err-surveyed-clause-run : goal.returns-in_err-surveyed-clause-run
returns-in_err-surveyed-clause-run g c =
    let trace : SourceRun = source_run g.T.Source.handed_out g.T.Source.is_at_end g.T.Source.failures c.args.trace.now c.read_two.new.first in
    let hint : SourceRun = source_run g.U.Source.handed_out g.U.Source.is_at_end g.U.Source.failures c.args.hint.now c.read_two.new.second in
    let cert : SinkRun = sink_run g.C.Sink.written g.C.Sink.failures c.args.sinks.now.cert c.args.sinks.now.cert in
    let names : SinkRun = sink_run g.N.Sink.written g.N.Sink.failures c.args.sinks.now.names c.args.sinks.now.names in
    let part : SinkRun = sink_run g.P.Sink.written g.P.Sink.failures c.args.sinks.now.part c.args.sinks.now.part in
    let out : SinkRun = sink_run g.W.Sink.written g.W.Sink.failures c.args.out.now c.args.out.now in
    let p = err_from_is_err_and c.from_residual-in_err-surveyed.result c.from_residual-in_err-surveyed.ensures.1 in
    rw (p.1, p.2) (refused (of_two IsSaidOfSurvey) texts_with_core status_of_survey (trace ∷ hint ∷ []) InPieces (cert ∷ names ∷ part ∷ out ∷ []) ((refl, refl), ((refl, refl), ((refl, refl), ((refl, refl), tt)))) (c.in_ok-texts.texts.0.items ∷ c.in_ok-texts.texts.1.items ∷ []) (search rules) (λ s. s) (λ s. s) c.in_err-surveyed.field-0.0 (search rules))

pub returns-in_err-write_survey_certificate-clause-run : goal.returns-in_err-write_survey_certificate-clause-run
returns-in_err-write_survey_certificate-clause-run g c =
    let trace : SourceRun = source_run g.T.Source.handed_out g.T.Source.is_at_end g.T.Source.failures c.args.trace.now c.read_two.new.first in
    let hint : SourceRun = source_run g.U.Source.handed_out g.U.Source.is_at_end g.U.Source.failures c.args.hint.now c.read_two.new.second in
    let cert : SinkRun = sink_run g.C.Sink.written g.C.Sink.failures c.args.sinks.now.cert c.write_survey_certificate.new.sink in
    let names : SinkRun = sink_run g.N.Sink.written g.N.Sink.failures c.args.sinks.now.names c.args.sinks.now.names in
    let part : SinkRun = sink_run g.P.Sink.written g.P.Sink.failures c.args.sinks.now.part c.args.sinks.now.part in
    let out : SinkRun = sink_run g.W.Sink.written g.W.Sink.failures c.args.out.now c.args.out.now in
    let p = err_from_is_err_and c.from_residual-in_err-write_survey_certificate.result c.from_residual-in_err-write_survey_certificate.ensures.1 in
    rw (p.1, p.2) (cert_cut_off trace hint cert names part out c.in_ok-texts.texts.0.items c.in_ok-texts.texts.1.items c.in_ok-texts.ensures.read c.in_ok-surveyed.surveyed (said_of_equal c.as_slice.ensures.value c.as_slice-2.ensures.value c.in_ok-surveyed.surveyed c.in_ok-surveyed.ensures.said) c.in_err-write_survey_certificate.field-0.0 c.in_err-write_survey_certificate.ensures.front c.in_err-write_survey_certificate.ensures.failed (refl, refl) (refl, refl) (refl, refl))

pub returns-in_err-write_names-clause-run : goal.returns-in_err-write_names-clause-run
returns-in_err-write_names-clause-run g c =
    let trace : SourceRun = source_run g.T.Source.handed_out g.T.Source.is_at_end g.T.Source.failures c.args.trace.now c.read_two.new.first in
    let hint : SourceRun = source_run g.U.Source.handed_out g.U.Source.is_at_end g.U.Source.failures c.args.hint.now c.read_two.new.second in
    let cert : SinkRun = sink_run g.C.Sink.written g.C.Sink.failures c.args.sinks.now.cert c.write_survey_certificate.new.sink in
    let names : SinkRun = sink_run g.N.Sink.written g.N.Sink.failures c.args.sinks.now.names c.write_names.new.names in
    let part : SinkRun = sink_run g.P.Sink.written g.P.Sink.failures c.args.sinks.now.part c.args.sinks.now.part in
    let out : SinkRun = sink_run g.W.Sink.written g.W.Sink.failures c.args.out.now c.args.out.now in
    let p = err_from_is_err_and c.from_residual-in_err-write_names.result c.from_residual-in_err-write_names.ensures.1 in
    rw (p.1, p.2) (names_cut_off trace hint cert names part out c.in_ok-texts.texts.0.items c.in_ok-texts.texts.1.items c.in_ok-texts.ensures.read c.in_ok-surveyed.surveyed (said_of_equal c.as_slice.ensures.value c.as_slice-2.ensures.value c.in_ok-surveyed.surveyed c.in_ok-surveyed.ensures.said) (c.in_ok-write_survey_certificate.ensures.whole, c.in_ok-write_survey_certificate.ensures.well) c.in_err-write_names.field-0.0 c.in_err-write_names.ensures.front c.in_err-write_names.ensures.failed (refl, refl) (refl, refl))

pub returns-in_err-write_core_part-clause-run : goal.returns-in_err-write_core_part-clause-run
returns-in_err-write_core_part-clause-run g c =
    let trace : SourceRun = source_run g.T.Source.handed_out g.T.Source.is_at_end g.T.Source.failures c.args.trace.now c.read_two.new.first in
    let hint : SourceRun = source_run g.U.Source.handed_out g.U.Source.is_at_end g.U.Source.failures c.args.hint.now c.read_two.new.second in
    let cert : SinkRun = sink_run g.C.Sink.written g.C.Sink.failures c.args.sinks.now.cert c.write_survey_certificate.new.sink in
    let names : SinkRun = sink_run g.N.Sink.written g.N.Sink.failures c.args.sinks.now.names c.write_names.new.names in
    let part : SinkRun = sink_run g.P.Sink.written g.P.Sink.failures c.args.sinks.now.part c.write_core_part.new.part in
    let out : SinkRun = sink_run g.W.Sink.written g.W.Sink.failures c.args.out.now c.args.out.now in
    let p = err_from_is_err_and c.from_residual-in_err-write_core_part.result c.from_residual-in_err-write_core_part.ensures.1 in
    rw (p.1, p.2) (part_cut_off trace hint cert names part out c.in_ok-texts.texts.0.items c.in_ok-texts.texts.1.items c.in_ok-texts.ensures.read c.in_ok-surveyed.surveyed (said_of_equal c.as_slice.ensures.value c.as_slice-2.ensures.value c.in_ok-surveyed.surveyed c.in_ok-surveyed.ensures.said) (c.in_ok-write_survey_certificate.ensures.whole, c.in_ok-write_survey_certificate.ensures.well) (c.in_ok-write_names.ensures.whole, c.in_ok-write_names.ensures.well) c.in_err-write_core_part.field-0.0 c.in_err-write_core_part.ensures.front c.in_err-write_core_part.ensures.failed (refl, refl))

pub returns-clause-answered : goal.returns-clause-answered
returns-clause-answered g c =
    let trace : SourceRun = source_run g.T.Source.handed_out g.T.Source.is_at_end g.T.Source.failures c.args.trace.now c.read_two.new.first in
    let hint : SourceRun = source_run g.U.Source.handed_out g.U.Source.is_at_end g.U.Source.failures c.args.hint.now c.read_two.new.second in
    let out : SinkRun = sink_run g.W.Sink.written g.W.Sink.failures c.args.out.now c.write_report.new.out in
    answered (g.S.Surveyor.finds c.args.surveyor.now) trace hint c.in_ok-texts.texts.0.items c.in_ok-texts.texts.1.items c.in_ok-texts.ensures.read c.args.run.now.options.now out c.in_ok-surveyed.surveyed
    (subst (λ (read : List ℕ). FollowsFromTexts c.args.run.now.options.now (g.S.Surveyor.finds c.args.surveyor.now) read c.in_ok-texts.texts.1.items c.in_ok-surveyed.surveyed) c.as_slice.ensures.value
    (subst (λ (read : List ℕ). FollowsFromTexts c.args.run.now.options.now (g.S.Surveyor.finds c.args.surveyor.now) c.as_slice.result.now read c.in_ok-surveyed.surveyed) c.as_slice-2.ensures.value c.in_ok-surveyed.ensures.follows)) c.write_report.result c.write_report.ensures.run
