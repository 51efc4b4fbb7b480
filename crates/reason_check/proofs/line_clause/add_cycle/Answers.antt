use Rattle.std.proofs.Common.{◌⊎◌, inl, List, [], map, subst, sym}
use Rattle.order_clauses.specs.Numbered.{named}
use Rattle.order_clauses.specs.declared.order_pair.OrderPair.{OrderPair}
use Rattle.reason_clauses.specs.Made.{Makes, IsCycleOf}
use Rattle.reason_clauses.specs.AddedOrders.{AddsOnly}
use Rattle.reason_clauses.specs.CycleRefused.{IsCycleRefused, IsTurnedStep}
use Rattle.reason_clauses.proofs.RefusedLemmas.{refusal_on}
use Rattle.reason_check.specs.RefusedByTrace.{IsNoClause}
use Rattle.reason_check.proofs.OutcomeLemmas.{from_none, unmade_line}
use Rattle.reason_check.proofs.LineLemmas.{next_if_made}
use Rattle.reason_check.proofs.line_clause.add_cycle.Goals as goal

pub returns-clause-made : goal.returns-clause-made
returns-clause-made c =
    let t = c.args.trace.now in
    next_if_made t (IsCycleOf t (map (named t) c.args.operations.now)) c.args.list.now c.add_orders.new.list c.as_slice.result.now
    (subst (λ (l : List OrderPair). Makes t l (IsCycleOf t (map (named t) c.args.operations.now))) (sym c.as_slice.ensures.value) c.in_ok-cycle_clause.ensures.made) c.add_orders.result c.add_orders.ensures.appended c.add_orders.ensures.outcome

pub returns-clause-refused : goal.returns-clause-refused
returns-clause-refused c =
    let asked = IsTurnedStep c.args.operations.now in
    unmade_line asked c.as_slice.result.now (subst (λ (l : List OrderPair). AddsOnly [] l asked) (sym c.as_slice.ensures.value) (from_none asked c.new-orders.result.items c.cycle_clause.new.orders.items c.new-orders.ensures.items c.in_ok-cycle_clause.ensures.only)) (IsCycleRefused c.args.trace.now c.args.operations.now) c.add_orders.new.list.variables c.add_orders.result c.add_orders.ensures.refused

pub returns-in_err-cycle_clause-clause-refused : goal.returns-in_err-cycle_clause-clause-refused
returns-in_err-cycle_clause-clause-refused c =
    let Is = IsCycleRefused c.args.trace.now c.args.operations.now in
    refusal_on Is (λ cause. Is cause ⊎ IsNoClause (IsTurnedStep c.args.operations.now) cause) c.from_residual.result c.in_err-cycle_clause.field-0.0 c.from_residual.ensures.1 (λ cause h. inl h) c.in_err-cycle_clause.ensures.refused
