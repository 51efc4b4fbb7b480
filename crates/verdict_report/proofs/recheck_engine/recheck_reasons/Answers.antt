use Rattle.std.proofs.lemmas.Result.{err_from_is_err_and}
use Rattle.verdict_report.proofs.RecheckLemmas.{said_refused}
use Rattle.verdict_report.proofs.recheck_engine.recheck_reasons.Goals as goal

pub returns : goal.returns
returns c = record {
  value = c.in_ok-trace.trace;
  is_trace = c.in_ok-trace.ensures.trace;
  spelled = c.in_ok-trace.ensures.spelled;
  accepted = c.in_ok-accepted.ensures.accepted;
  no_schedule = c.in_ok-accepted.ensures.sound;
}

pub returns-in_err-accepted : goal.returns-in_err-accepted
returns-in_err-accepted c =
    let p = err_from_is_err_and c.from_residual-in_err-accepted.result c.from_residual-in_err-accepted.ensures.1 in
    rw (p.1, p.2) (said_refused c.in_ok-trace.trace c.in_ok-trace.ensures.trace c.args.trace_text.now c.args.cert_text.now c.in_ok-trace.ensures.spelled c.in_err-accepted.field-0.0 c.in_err-accepted.ensures.refused)
