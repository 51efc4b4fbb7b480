use Rattle.std.proofs.Common.{ap, sym, ◌∙◌, is_some, arith}
use Rattle.std.specs.List.{list_any}
use Rattle.std.proofs.lemmas.List.{take_all}
use Rattle.schedule_judge.specs.declared.op_numbers.OpNumbers.{OpNumbers}
use Rattle.schedule_judge.specs.Tables.{number_at}
use Rattle.schedule_judge.proofs.EarlyLemmas.{early_more, early_same, is_early_by}
use Rattle.schedule_judge.proofs.survey.early_ops.Goals as goal
use Rattle.schedule_judge.proofs.survey.early_ops.Goals.{then-breaks+in_ok-insert, else-breaks}

pub loop-pair-preserved : goal.loop-pair-preserved
loop-pair-preserved c =
    elim c.if-breaks.branch [
      | then-breaks+in_ok-insert w ↦ λ n. early_more c.args.before.now c.args.places.now c.loop-pair.pair-index c.pair-item.result n (number_at c.loop-pair.early n) (number_at c.if-breaks.early n) c.loop-pair-test.true c.pair-item.is (c.loop-pair.invariant n) (sym c.breaks.ensures ∙ w.if-breaks.true) (ap (λ (t : OpNumbers). number_at t n) w.early-is ∙ w.in_ok-insert.ensures n)
      | else-breaks w ↦ λ n. ap (λ (t : OpNumbers). is_some (number_at t n)) w.early-is ∙ early_same c.args.before.now c.args.places.now c.loop-pair.pair-index c.pair-item.result n (number_at c.loop-pair.early n) c.loop-pair-test.true c.pair-item.is (c.loop-pair.invariant n) (sym c.breaks.ensures ∙ w.if-breaks.false)
    ]

pub returns : goal.returns
returns c = λ n. c.loop-pair.invariant n ∙ ap (list_any (is_early_by c.args.places.now n)) (take_all c.loop-pair.pair-index c.args.before.now (omega arith))
