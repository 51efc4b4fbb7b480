use Rattle.std.proofs.Common.{◌⊎◌, List, [], inl, inr, subst, sym}
use Rattle.order_clauses.specs.declared.order_pair.OrderPair.{OrderPair}
use Rattle.reason_clauses.specs.AddedOrders.{AddsOnly}
use Rattle.reason_clauses.specs.Made.{Makes}
use Rattle.reason_clauses.proofs.RefusedLemmas.{refusal_on}
use Rattle.reason_counting.specs.WaitingRefused.{IsWaitingOrder, IsWaitingRefused}
use Rattle.reason_check.specs.LineClauses.{IsWaitingOf}
use Rattle.reason_check.specs.Members.{AreWaiters, AreWaitersRefused}
use Rattle.reason_check.specs.RefusedByTrace.{IsWaitingLineRefused, IsNoClause}
use Rattle.reason_check.proofs.LineLemmas.{next_if_made}
use Rattle.reason_check.proofs.OutcomeLemmas.{from_none, unmade_line, with_gathered}
use Rattle.reason_check.proofs.line_clause.add_waiting.Goals as goal

pub returns-clause-made : goal.returns-clause-made
returns-clause-made c =
    let t = c.args.trace.now in
    next_if_made t (IsWaitingOf t) c.args.list.now c.add_orders.new.list c.as_slice-2.result.now
    (subst (λ (l : List OrderPair). Makes t l (IsWaitingOf t)) (sym c.as_slice-2.ensures.value) (λ clause all. (_, c.in_ok-waiting_clause.ensures.made clause all))) c.add_orders.result c.add_orders.ensures.appended c.add_orders.ensures.outcome

pub returns-clause-refused : goal.returns-clause-refused
returns-clause-refused c =
    let t = c.args.trace.now in
    let waiters = c.as_slice.result.now in
    let asked = IsWaitingOrder t waiters in
    with_gathered (AreWaiters c.args.parts.now) (AreWaitersRefused c.args.parts.now) (IsWaitingLineRefused t c.args.parts.now) (IsWaitingRefused t) (λ g. IsNoClause (IsWaitingOrder t g)) (λ cause h. h) waiters
    (subst (AreWaiters c.args.parts.now) (sym c.as_slice.ensures.value) c.in_ok-waiters.ensures.gathered) c.add_orders.result
    (unmade_line asked c.as_slice-2.result.now (subst (λ (l : List OrderPair). AddsOnly [] l asked) (sym c.as_slice-2.ensures.value) (from_none asked c.new-orders.result.items c.waiting_clause.new.orders.items c.new-orders.ensures.items c.in_ok-waiting_clause.ensures.only))
    (IsWaitingRefused t waiters) c.add_orders.new.list.variables c.add_orders.result c.add_orders.ensures.refused)

pub returns-in_err-waiters-clause-refused : goal.returns-in_err-waiters-clause-refused
returns-in_err-waiters-clause-refused c =
    refusal_on (AreWaitersRefused c.args.parts.now) (IsWaitingLineRefused c.args.trace.now c.args.parts.now) c.from_residual.result c.in_err-waiters.field-0.0 c.from_residual.ensures.1 (λ cause h. inl h) c.in_err-waiters.ensures.refused

pub returns-in_err-waiting_clause-clause-refused : goal.returns-in_err-waiting_clause-clause-refused
returns-in_err-waiting_clause-clause-refused c =
    refusal_on (IsWaitingRefused c.args.trace.now c.as_slice.result.now) (IsWaitingLineRefused c.args.trace.now c.args.parts.now) c.from_residual-in_err-waiting_clause.result c.in_err-waiting_clause.field-0.0 c.from_residual-in_err-waiting_clause.ensures.1
    (λ cause h. inr (c.as_slice.result.now, subst (AreWaiters c.args.parts.now) (sym c.as_slice.ensures.value) c.in_ok-waiters.ensures.gathered, inl h)) c.in_err-waiting_clause.ensures.refused
