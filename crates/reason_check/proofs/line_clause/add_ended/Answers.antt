use Rattle.std.proofs.Common.{◌⊎◌, inl, List, [], subst, sym}
use Rattle.trace_semantics.specs.declared.operation.OpName.{OpName}
use Rattle.order_clauses.specs.Numbered.{named}
use Rattle.order_clauses.specs.declared.order_pair.OrderPair.{OrderPair}
use Rattle.order_reasons.specs.Reasons.{IsTimesClause}
use Rattle.reason_clauses.specs.Made.{Makes}
use Rattle.reason_clauses.specs.AddedOrders.{AddsOnly, IsOrder}
use Rattle.reason_clauses.specs.EndedRefused.{IsEndedRefused}
use Rattle.reason_clauses.proofs.RefusedLemmas.{refusal_on}
use Rattle.reason_check.specs.RefusedByTrace.{IsNoClause}
use Rattle.reason_check.proofs.OutcomeLemmas.{from_none, unmade_line}
use Rattle.reason_check.proofs.LineLemmas.{next_if_made}
use Rattle.reason_check.proofs.line_clause.add_ended.Goals as goal

pub returns-clause-made : goal.returns-clause-made
returns-clause-made c =
    let t = c.args.trace.now in
    let Is = λ (clause : List (OpName × OpName)). IsTimesClause t clause (named t c.args.pair.first) (named t c.args.pair.second) in
    next_if_made t Is c.args.list.now c.add_orders.new.list c.as_slice.result.now
    (subst (λ (l : List OrderPair). Makes t l Is) (sym c.as_slice.ensures.value) c.in_ok-ended_clause.ensures.made) c.add_orders.result c.add_orders.ensures.appended c.add_orders.ensures.outcome

pub returns-clause-refused : goal.returns-clause-refused
returns-clause-refused c =
    let asked = IsOrder c.args.pair.first c.args.pair.second in
    unmade_line asked c.as_slice.result.now (subst (λ (l : List OrderPair). AddsOnly [] l asked) (sym c.as_slice.ensures.value) (from_none asked c.new-orders.result.items c.ended_clause.new.orders.items c.new-orders.ensures.items c.in_ok-ended_clause.ensures.only)) (IsEndedRefused c.args.trace.now c.args.pair) c.add_orders.new.list.variables c.add_orders.result c.add_orders.ensures.refused

pub returns-in_err-ended_clause-clause-refused : goal.returns-in_err-ended_clause-clause-refused
returns-in_err-ended_clause-clause-refused c =
    let Is = IsEndedRefused c.args.trace.now c.args.pair in
    refusal_on Is (λ cause. Is cause ⊎ IsNoClause (IsOrder c.args.pair.first c.args.pair.second) cause) c.from_residual.result c.in_err-ended_clause.field-0.0 c.from_residual.ensures.1 (λ cause h. inl h) c.in_err-ended_clause.ensures.refused
