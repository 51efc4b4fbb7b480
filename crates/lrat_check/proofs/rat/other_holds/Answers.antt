use Rattle.std.proofs.Common.{◌∙◌, ap, sym, take, ◌||◌, arith}
use Rattle.std.specs.List.{list_any}
use Rattle.std.proofs.lemmas.Bool.{or_right}
use Rattle.std.proofs.Math.Bool.{or-false}
use Rattle.lrat_check.specs.Propagation.{has}
use Rattle.lrat_check.specs.Rat.{others}
use Rattle.lrat_check.proofs.Justifying.RatLemmas.{any_more}
use Rattle.lrat_check.proofs.rat.other_holds.Goals as goal
use Rattle.lrat_check.proofs.rat.other_holds.Goals.{then-is_true_other, else-is_true_other}

pub loop-literal-preserved : goal.loop-literal-preserved
loop-literal-preserved c =
    let front = list_any (has c.args.trues.now) (others c.args.pivot (take c.loop-literal.literal-index c.args.clause.now)) in
    let more = any_more c.args.trues.now c.args.pivot c.args.clause.now c.loop-literal.literal-index c.literal-item.result (omega arith) c.literal-item.is in
    elim c.if-is_true_other.branch [
      | then-is_true_other w ↦ w.found-is ∙ sym (more ∙ or_right front _ (sym c.is_true_other.ensures ∙ w.if-is_true_other.true))
      | else-is_true_other w ↦ w.found-is ∙ c.loop-literal.invariant ∙ sym (more ∙ ap (λ b. front || b) (sym c.is_true_other.ensures ∙ w.if-is_true_other.false) ∙ or-false front)
    ]
