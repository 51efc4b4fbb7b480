use Rattle.std.proofs.Common.{rules}
use Rattle.std.proofs.lemmas.Result.{err_from_is_err_and}
use Rattle.verdict_report.proofs.RecheckLemmas.{said, unread, unreduced}
use Rattle.verdict_report.proofs.recheck_engine.recheck_texts.Goals as goal

pub returns : goal.returns
returns c = said c.in_ok-reduced.reduced c.in_ok-reduced.ensures.reduced c.in_ok-certificate.certificate c.args.trace_text.now c.args.cert_text.items (search rules) (search rules) c.recheck_reduced.result c.recheck_reduced.ensures

pub returns-in_err-certificate : goal.returns-in_err-certificate
returns-in_err-certificate c =
    let p = err_from_is_err_and c.from_residual-in_err-certificate.result c.from_residual-in_err-certificate.ensures.1 in
    rw (p.1, p.2) (unread c.args.trace_text.now c.args.cert_text.items c.in_ok-trace.trace c.in_ok-trace.ensures.trace c.in_ok-trace.ensures.spelled c.in_err-certificate.field-0.0 c.in_err-certificate.ensures.faulty)

pub returns-in_err-reduced : goal.returns-in_err-reduced
returns-in_err-reduced c =
    let p = err_from_is_err_and c.from_residual-in_err-reduced.result c.from_residual-in_err-reduced.ensures.1 in
    rw (p.1, p.2) (unreduced c.args.trace_text.now c.args.cert_text.items c.in_ok-trace.trace c.in_ok-trace.ensures.trace c.in_ok-trace.ensures.spelled c.in_ok-certificate.certificate c.in_ok-certificate.ensures.spelled c.in_err-reduced.field-0.0 c.in_err-reduced.ensures.refused)
