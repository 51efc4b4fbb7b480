use Rattle.std.proofs.Common.{sym, subst, take}
use Rattle.std.proofs.lemmas.List.{take_more}
use Rattle.reason_check.specs.Members.{AreWaiters, IsWaiterPartRefused}
use Rattle.reason_check.proofs.MemberLemmas.{part_refused}
use Rattle.reason_check.proofs.gathered_pieces.gather_waiters.Goals as goal

pub returns-in_err-take_waiting-clause-refused : goal.returns-in_err-take_waiting-clause-refused
returns-in_err-take_waiting-clause-refused c =
    part_refused IsWaiterPartRefused (λ front. AreWaiters front c.loop-part.waiters.items) c.from_residual.result c.in_err-take_waiting.field-0.0 c.args.parts.now c.loop-part.part-index _ c.from_residual.ensures.1 c.loop-part-test.true c.loop-part.invariant c.in_err-take_waiting.ensures.refused

pub loop-part-preserved : goal.loop-part-preserved
loop-part-preserved c =
    subst (λ l. AreWaiters l c.take_waiting.new.waiters.items) (sym (take_more c.args.parts.now c.loop-part.part-index _ c.loop-part-test.true))
    (c.in_ok-take_waiting.ensures.gathered (take c.loop-part.part-index c.args.parts.now) c.loop-part.invariant)
