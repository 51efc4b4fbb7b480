use Rattle.std.proofs.Common.{◌∙◌, subst}
use Rattle.std.proofs.lemmas.Result.{err_from_is_err_and}
use Rattle.reducer.specs.Reduced.{HasReduceFault}
use Rattle.schedule_text.specs.ScheduleText.{SpellsSchedule, HasScheduleFault}
use Rattle.text_lines.specs.Fault.{IsRefusal}
use Rattle.trace_semantics.specs.declared.limits.Limits.{Limits}
use Rattle.trace_semantics.specs.Trace.{TraceValue}
use Rattle.part_report.proofs.PartRecheckLemmas.{said, unread, unlisted, unchosen, unreduced}
use Rattle.part_report.proofs.part_recheck_engine.recheck_part.Goals as goal

pub returns : goal.returns
returns c =
    let listed = subst (λ (limits : Limits). SpellsSchedule limits c.args.names_text.now c.in_ok-names.names) c.limits_for.ensures c.in_ok-names.ensures.spelled in
    said c.args.trace_text.now c.args.cert_text.items c.args.names_text.now c.in_ok-trace.trace c.in_ok-trace.ensures.trace c.in_ok-trace.ensures.spelled c.in_ok-certificate.certificate c.in_ok-certificate.ensures.spelled
    c.in_ok-names.names listed c.in_ok-part.part c.in_ok-part.ensures.part c.in_ok-reduced.reduced (c.in_ok-reduced.ensures.whole ∙ c.trace.ensures) c.recheck_reduced.result c.recheck_reduced.ensures

pub returns-in_err-certificate : goal.returns-in_err-certificate
returns-in_err-certificate c =
    let p = err_from_is_err_and c.from_residual-in_err-certificate.result c.from_residual-in_err-certificate.ensures.1 in
    rw (p.1, p.2) (unread c.args.trace_text.now c.args.cert_text.items c.args.names_text.now c.in_ok-trace.trace c.in_ok-trace.ensures.trace c.in_ok-trace.ensures.spelled c.in_err-certificate.field-0.0 c.in_err-certificate.ensures.faulty)

pub returns-in_err-names : goal.returns-in_err-names
returns-in_err-names c =
    let p = err_from_is_err_and c.from_residual-in_err-names.result c.from_residual-in_err-names.ensures.1 in
    rw (p.1, p.2) (unlisted c.args.trace_text.now c.args.cert_text.items c.args.names_text.now c.in_ok-trace.trace c.in_ok-trace.ensures.trace c.in_ok-trace.ensures.spelled c.in_ok-certificate.certificate c.in_ok-certificate.ensures.spelled c.in_err-names.field-0.0
    (subst (λ (limits : Limits). IsRefusal (HasScheduleFault limits c.args.names_text.now) c.in_err-names.field-0.0) c.limits_for.ensures c.in_err-names.ensures.faulty))

pub returns-in_err-part : goal.returns-in_err-part
returns-in_err-part c =
    let p = err_from_is_err_and c.from_residual-in_err-part.result c.from_residual-in_err-part.ensures.1 in
    let listed = subst (λ (limits : Limits). SpellsSchedule limits c.args.names_text.now c.in_ok-names.names) c.limits_for.ensures c.in_ok-names.ensures.spelled in
    rw (p.1, p.2) (unchosen c.args.trace_text.now c.args.cert_text.items c.args.names_text.now c.in_ok-trace.trace c.in_ok-trace.ensures.trace c.in_ok-trace.ensures.spelled c.in_ok-certificate.certificate c.in_ok-certificate.ensures.spelled
    c.in_ok-names.names listed c.in_err-part.field-0.0 (c.in_err-part.ensures.refused listed))

pub returns-in_err-reduced : goal.returns-in_err-reduced
returns-in_err-reduced c =
    let p = err_from_is_err_and c.from_residual-in_err-reduced.result c.from_residual-in_err-reduced.ensures.1 in
    let listed = subst (λ (limits : Limits). SpellsSchedule limits c.args.names_text.now c.in_ok-names.names) c.limits_for.ensures c.in_ok-names.ensures.spelled in
    rw (p.1, p.2) (unreduced c.args.trace_text.now c.args.cert_text.items c.args.names_text.now c.in_ok-trace.trace c.in_ok-trace.ensures.trace c.in_ok-trace.ensures.spelled c.in_ok-certificate.certificate c.in_ok-certificate.ensures.spelled
    c.in_ok-names.names listed c.in_ok-part.part c.in_ok-part.ensures.part c.in_err-reduced.field-0.0
    (subst (λ (t : TraceValue). IsRefusal (HasReduceFault t) c.in_err-reduced.field-0.0) c.trace.ensures c.in_err-reduced.ensures.refused))
