use Rattle.std.proofs.Common.{arith}
use Rattle.reason_counting.proofs.MemberLemmas.{distinct_next}
use Rattle.reason_counting.proofs.counted_members.want_distinct.Goals as goal

pub loop-k-init : goal.loop-k-init
loop-k-init c i j d less low = absurd (omega (arith, low))

pub loop-k-preserved : goal.loop-k-preserved
loop-k-preserved c = distinct_next c.args.members.now c.loop-k.k c.loop-k.invariant c.in_ok-want_new.ensures.apart

pub returns-clause-distinct : goal.returns-clause-distinct
returns-clause-distinct c i j d less low = c.loop-k.invariant i j d less (let past = c.loop-k-test.false in omega (arith, low, past))
