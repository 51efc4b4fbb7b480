use Rattle.std.proofs.Common.{sym, arith}
use Rattle.reason_counting.proofs.MemberLemmas.{two_next}
use Rattle.reason_counting.proofs.counted_members.want_new.Goals as goal

pub loop-j-init : goal.loop-j-init
loop-j-init c i d less = absurd (omega (arith, less))

pub loop-j-preserved : goal.loop-j-preserved
loop-j-preserved c =
    two_next c.args.members.now c.args.k c.loop-j.j c.index-members-j.result c.index-members-k.result c.loop-j.invariant (omega (arith, c.loop-j-test.true, c.requires)) c.requires (sym c.index-members-j.is) (sym c.index-members-k.is) (c.is_one_member.ensures.apart c.if-is_one_member.false)

pub returns-clause-apart : goal.returns-clause-apart
returns-clause-apart c j d less = c.loop-j.invariant j d (let past = c.loop-j-test.false in omega (arith, less, past))
