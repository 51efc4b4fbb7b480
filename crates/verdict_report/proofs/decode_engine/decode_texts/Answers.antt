use Rattle.std.proofs.Common.{rules}
use Rattle.std.proofs.lemmas.Result.{err_from_is_err_and}
use Rattle.verdict_report.proofs.DecodeLemmas.{said, unreduced}
use Rattle.verdict_report.proofs.decode_engine.decode_texts.Goals as goal

pub returns : goal.returns
returns c = said c.in_ok-reduced.reduced c.in_ok-reduced.ensures.reduced c.in_ok-model.model c.args.trace_text.now c.args.model_text.now (search rules) (search rules) c.decode_reduced.result c.decode_reduced.ensures

pub returns-in_err-reduced : goal.returns-in_err-reduced
returns-in_err-reduced c =
    let p = err_from_is_err_and c.from_residual-in_err-reduced.result c.from_residual-in_err-reduced.ensures.1 in
    rw (p.1, p.2) (unreduced c.args.trace_text.now c.args.model_text.now c.in_ok-trace.trace c.in_ok-trace.ensures.trace c.in_ok-trace.ensures.spelled c.in_ok-model.model c.in_ok-model.ensures.spelled c.in_err-reduced.field-0.0 c.in_err-reduced.ensures.refused)
