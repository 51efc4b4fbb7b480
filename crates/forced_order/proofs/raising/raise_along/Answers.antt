use Rattle.forced_order.specs.Rows.{OrderValue}
use Rattle.forced_order.proofs.RiseLemmas.{no_pass, pass_joined}
use Rattle.forced_order.proofs.raising.raise_along.Goals as goal

pub loop-step-init : goal.loop-step-init
loop-step-init c = no_pass c.args.trace.now c.args.rows.now (λ o. Unit {0}) tt

pub loop-step-preserved : goal.loop-step-preserved
loop-step-preserved c =
    let any : OrderValue → Type 0 = λ o. Unit {0} in
    pass_joined c.args.trace.now c.either-rose.result c.loop-step.rose c.raise_step-more.result c.args.rows.now c.loop-step.rows c.raise_step-more.new.rows any any any c.either-rose.ensures (λ u v. tt) c.loop-step.invariant c.raise_step-more.ensures
