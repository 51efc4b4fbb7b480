use Rattle.std.proofs.Common.{subst}
use Rattle.std.proofs.lemmas.Result.{err_from_is_err_and}
use Rattle.schedule_text.specs.ScheduleText.{SpellsSchedule}
use Rattle.trace_semantics.specs.declared.limits.Limits.{Limits}
use Rattle.survey_report.proofs.SurveyLemmas.{unsearched}
use Rattle.survey_report.proofs.survey_engine.survey_texts.Goals as goal

pub returns-clause-said : goal.returns-clause-said
returns-clause-said g c = (
  c.args.run.now.options.now,
  record { value = c.in_ok-trace.trace; is_trace = c.in_ok-trace.ensures.trace; spelled = c.in_ok-trace.ensures.spelled; decided = c.in_ok-decide_with_hint.ensures.decided },
  record { names = c.in_ok-names.names; spelled = subst (λ (limits : Limits). SpellsSchedule limits c.args.hint.now c.in_ok-names.names) c.limits_for.ensures c.in_ok-names.ensures.spelled },
)

pub returns-clause-surveyed : goal.returns-clause-surveyed
returns-clause-surveyed g c = record { value = c.in_ok-trace.trace; is_trace = c.in_ok-trace.ensures.trace; spelled = c.in_ok-trace.ensures.spelled; decided = c.in_ok-decide_with_hint.ensures.decided }

pub returns-clause-follows : goal.returns-clause-follows
returns-clause-follows g c =
    record {
      value = c.in_ok-trace.trace;
      is_trace = c.in_ok-trace.ensures.trace;
      spelled = c.in_ok-trace.ensures.spelled;
      hinted = record { names = c.in_ok-names.names; spelled = subst (λ (limits : Limits). SpellsSchedule limits c.args.hint.now c.in_ok-names.names) c.limits_for.ensures c.in_ok-names.ensures.spelled };
      decided = c.in_ok-decide_with_hint.ensures.decided;
      follows = c.in_ok-decide_with_hint.ensures.follows;
    }

pub returns-in_err-decide_with_hint-clause-said : goal.returns-in_err-decide_with_hint-clause-said
returns-in_err-decide_with_hint-clause-said g c =
    let p = err_from_is_err_and c.from_residual-in_err-decide_with_hint.result c.from_residual-in_err-decide_with_hint.ensures.1 in
    rw (p.1, p.2) (unsearched c.args.text.now c.args.hint.now (record { value = c.in_ok-trace.trace; is_trace = c.in_ok-trace.ensures.trace; spelled = c.in_ok-trace.ensures.spelled })
    (record { names = c.in_ok-names.names; spelled = subst (λ (limits : Limits). SpellsSchedule limits c.args.hint.now c.in_ok-names.names) c.limits_for.ensures c.in_ok-names.ensures.spelled }) c.in_err-decide_with_hint.field-0.0)
