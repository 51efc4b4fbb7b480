use Rattle.std.proofs.Common.{take}
use Rattle.schedule_judge.proofs.EndingLemmas.{one_more_came, missing_here, none_missing}
use Rattle.schedule_judge.proofs.judge.first_missing.Goals as goal

pub returns-then-not-has_come : goal.returns-then-not-has_come
returns-then-not-has_come c =
    let s = c.args.survey.now in
    missing_here (take c.args.count s.names.now) s.endings.items c.as_slice-endings.result.now c.loop-k.k _ c.has_come.result c.as_slice-endings.ensures.value c.loop-k.invariant c.has_come.ensures c.if-not-has_come.true

pub loop-k-preserved : goal.loop-k-preserved
loop-k-preserved c =
    let s = c.args.survey.now in
    one_more_came (take c.args.count s.names.now) s.endings.items c.as_slice-endings.result.now c.loop-k.k _ c.has_come.result c.as_slice-endings.ensures.value c.loop-k-test.true c.loop-k.invariant c.has_come.ensures c.if-not-has_come.false

pub returns : goal.returns
returns c =
    let s = c.args.survey.now in
    none_missing (take c.args.count s.names.now) s.endings.items c.as_slice-endings.result.now c.loop-k.k c.as_slice-endings.ensures.value c.loop-k-test.false c.loop-k.invariant
