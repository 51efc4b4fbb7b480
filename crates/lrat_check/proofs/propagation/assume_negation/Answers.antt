use Rattle.std.proofs.Common.{◌++◌, ◌∷◌, [], ap, sym, ◌∙◌, arith}
use Rattle.lrat_check.specs.Propagation.{is_falsified}
use Rattle.lrat_check.proofs.Justifying.PropagationLemmas.{assume_more, assume_found}
use Rattle.lrat_check.proofs.propagation.assume_negation.Goals as goal

pub returns-then-is_false : goal.returns-then-is_false
returns-then-is_false c = assume_found c.args.clause.now c.loop-literal.trues c.loop-literal.literal-index c.literal-item.result (omega arith) c.literal-item.is c.loop-literal.invariant
    (ap (is_falsified c.loop-literal.trues) (sym c.negated-negation.ensures.number) ∙ sym c.is_false.ensures ∙ c.if-is_false.true)

pub loop-literal-preserved : goal.loop-literal-preserved
loop-literal-preserved c = assume_more c.args.clause.now c.loop-literal.trues c.push.new.self c.loop-literal.literal-index c.literal-item.result (omega arith) c.literal-item.is c.recall_literals.ensures c.loop-literal.invariant
    (ap (is_falsified c.loop-literal.trues) (sym c.negated-negation.ensures.number) ∙ sym c.is_false.ensures ∙ c.if-is_false.false)
    (c.in_ok-push.ensures ∙ ap (λ z. c.loop-literal.trues ++ z ∷ []) c.negated-negation.ensures.number)
