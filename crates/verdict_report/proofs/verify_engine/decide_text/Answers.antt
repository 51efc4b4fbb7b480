use Rattle.std.proofs.Common.{rules}
use Rattle.std.proofs.lemmas.Result.{err_from_is_err_and}
use Rattle.verdict_report.proofs.VerifyLemmas.{unreduced, unsearched}
use Rattle.verdict_report.proofs.verify_engine.decide_text.Goals as goal

pub returns-clause-said : goal.returns-clause-said
returns-clause-said g c = (c.args.options.now, record { value = c.in_ok-reduced.reduced.whole; admitted = search rules; decided = c.in_ok-decide.ensures })

pub returns-clause-decided : goal.returns-clause-decided
returns-clause-decided g c = record { value = c.in_ok-reduced.reduced.whole; admitted = search rules; decided = c.in_ok-decide.ensures }

pub returns-in_err-reduced-clause-said : goal.returns-in_err-reduced-clause-said
returns-in_err-reduced-clause-said g c =
    let p = err_from_is_err_and c.from_residual.result c.from_residual.ensures.1 in
    rw (p.1, p.2) (unreduced c.args.text.now c.in_err-reduced.field-0.0 (search rules))

pub returns-in_err-decide-clause-said : goal.returns-in_err-decide-clause-said
returns-in_err-decide-clause-said g c =
    let p = err_from_is_err_and c.from_residual-in_err-decide.result c.from_residual-in_err-decide.ensures.1 in
    rw (p.1, p.2) (unsearched c.args.text.now c.in_ok-reduced.reduced.whole (search rules) c.in_err-decide.field-0.0)
