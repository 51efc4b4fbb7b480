use Rattle.std.proofs.Common.{sym, subst, take, List, arith}
use Rattle.std.specs.Prelude.{ℤ}
use Rattle.lrat_check.specs.Standing.{IsStanding}
use Rattle.lrat_check.proofs.Justifying.PropagationLemmas.{take_item}
use Rattle.lrat_check.proofs.propagation.standing_of.Goals as goal

pub loop-literal-preserved : goal.loop-literal-preserved
loop-literal-preserved c =
    subst (λ (l : List ℤ). IsStanding c.args.trues.now l c.with_literal-standing.result) (sym (take_item c.args.clause.now c.loop-literal.literal-index c.literal-item.result (omega arith) c.literal-item.is))
    (c.with_literal-standing.ensures (take c.loop-literal.literal-index c.args.clause.now) c.loop-literal.invariant)
