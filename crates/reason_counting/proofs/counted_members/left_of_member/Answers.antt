use Rattle.std.proofs.Common.{sym, subst}
use Rattle.std.specs.Prelude.{IfErr, OnOk}
use Rattle.reason_clauses.specs.AddedOrders.{AddsOnly}
use Rattle.reason_clauses.specs.RefusedBy.{IsRefusedBy}
use Rattle.reason_counting.specs.CountingRefused.{IsMemberOrder, IsMemberRefused}
use Rattle.reason_counting.specs.declared.counted_members.CountedMember.{CountedMember}
use Rattle.reason_counting.proofs.counted_members.left_of_member.Goals as goal

pub returns-in-Update-clause-only : goal.returns-in-Update-clause-only
returns-in-Update-clause-only c =
    subst (λ (m : CountedMember). OnOk c.left_of_update.result (AddsOnly c.args.orders.now.items c.left_of_update.new.orders.items (IsMemberOrder c.args.trace.now m))) (sym c.in-Update.is) c.left_of_update.ensures.only

pub returns-in-Update-clause-refused : goal.returns-in-Update-clause-refused
returns-in-Update-clause-refused c = subst (λ (m : CountedMember). IfErr c.left_of_update.result (IsRefusedBy (IsMemberRefused c.args.trace.now m))) (sym c.in-Update.is) c.left_of_update.ensures.refused

pub returns-in-End-clause-only : goal.returns-in-End-clause-only
returns-in-End-clause-only c =
    subst (λ (m : CountedMember). OnOk c.left_ends.result (AddsOnly c.args.orders.now.items c.left_ends.new.orders.items (IsMemberOrder c.args.trace.now m))) (sym c.in-End.is) c.left_ends.ensures.only
