use Rattle.std.proofs.Common.{subst, take_all}
use Rattle.reason_clauses.proofs.SourceLemmas.{all_more}
use Rattle.reason_counting.specs.declared.left_sources.LeftStretch.{LeftStretch}
use Rattle.reason_counting.specs.WaitingSet.{AreBehind, IsStretchBehind}
use Rattle.reason_counting.proofs.waiting.want_all_behind.Goals as goal

pub loop-stretch-preserved : goal.loop-stretch-preserved
loop-stretch-preserved c members h =
    all_more (λ (x : LeftStretch). IsStretchBehind c.args.waiting.now.trace.now members x) c.args.stretches.now c.loop-stretch.stretch-index _ c.loop-stretch-test.true (c.loop-stretch.invariant members h) (c.in_ok-want_stretch_behind.ensures.behind members h)

pub returns-clause-behind : goal.returns-clause-behind
returns-clause-behind c members h = subst (λ l. AreBehind c.args.waiting.now.trace.now members l) (take_all c.loop-stretch.stretch-index c.args.stretches.now c.loop-stretch-test.false) (c.loop-stretch.invariant members h)
