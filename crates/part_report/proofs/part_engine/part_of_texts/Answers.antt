use Rattle.std.proofs.Common.{subst}
use Rattle.std.proofs.lemmas.Result.{err_from_is_err_and}
use Rattle.schedule_text.specs.ScheduleText.{SpellsSchedule, HasScheduleFault}
use Rattle.text_lines.specs.Fault.{IsRefusal}
use Rattle.trace_semantics.specs.declared.limits.Limits.{Limits}
use Rattle.part_report.proofs.PartLemmas.{chosen, unlisted, unchosen}
use Rattle.part_report.proofs.part_engine.part_of_texts.Goals as goal

pub returns : goal.returns
returns c = chosen c.args.trace_text.now c.args.names_text.now c.in_ok-trace.trace c.in_ok-trace.ensures.trace c.in_ok-trace.ensures.spelled c.in_ok-names.names
    (subst (λ (limits : Limits). SpellsSchedule limits c.args.names_text.now c.in_ok-names.names) c.limits_for.ensures c.in_ok-names.ensures.spelled) c.in_ok-named_part.field-0 c.in_ok-named_part.ensures.part

pub returns-in_err-names : goal.returns-in_err-names
returns-in_err-names c =
    let p = err_from_is_err_and c.from_residual-in_err-names.result c.from_residual-in_err-names.ensures.1 in
    rw (p.1, p.2) (unlisted c.args.trace_text.now c.args.names_text.now c.in_ok-trace.trace c.in_ok-trace.ensures.trace c.in_ok-trace.ensures.spelled c.in_err-names.field-0.0
    (subst (λ (limits : Limits). IsRefusal (HasScheduleFault limits c.args.names_text.now) c.in_err-names.field-0.0) c.limits_for.ensures c.in_err-names.ensures.faulty))

pub returns-in_err-named_part : goal.returns-in_err-named_part
returns-in_err-named_part c =
    let p = err_from_is_err_and c.from_residual-in_err-named_part.result c.from_residual-in_err-named_part.ensures.1 in
    let listed = subst (λ (limits : Limits). SpellsSchedule limits c.args.names_text.now c.in_ok-names.names) c.limits_for.ensures c.in_ok-names.ensures.spelled in
    rw (p.1, p.2) (unchosen c.args.trace_text.now c.args.names_text.now c.in_ok-trace.trace c.in_ok-trace.ensures.trace c.in_ok-trace.ensures.spelled c.in_ok-names.names listed c.in_err-named_part.field-0.0 (c.in_err-named_part.ensures.refused listed))
