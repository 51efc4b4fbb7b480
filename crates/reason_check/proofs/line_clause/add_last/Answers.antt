use Rattle.std.proofs.Common.{◌≡◌, ◌⊎◌, List, [], inl, inr, subst, sym}
use Rattle.order_clauses.specs.declared.order_pair.OrderPair.{OrderPair}
use Rattle.reason_clauses.specs.AddedOrders.{AddsOnly}
use Rattle.reason_clauses.specs.LastRefused.{IsLastOrder, IsLastRefused}
use Rattle.reason_clauses.specs.Made.{Makes, IsLastOf}
use Rattle.reason_clauses.proofs.RefusedLemmas.{refusal_on}
use Rattle.reason_check.specs.Gathered.{AreGathered, IsLateRefused}
use Rattle.reason_check.specs.RefusedByTrace.{IsLastLineRefused, IsNoClause}
use Rattle.reason_check.proofs.LineLemmas.{next_if_made}
use Rattle.reason_check.proofs.OutcomeLemmas.{from_none, unmade_line, with_gathered}
use Rattle.reason_check.proofs.line_clause.add_last.Goals as goal

pub returns-clause-made : goal.returns-clause-made
returns-clause-made c =
    let t = c.args.trace.now in
    next_if_made t (IsLastOf t c.args.location.now) c.args.list.now c.add_orders.new.list c.as_slice.result.now
    (subst (λ (l : List OrderPair). Makes t l (IsLastOf t c.args.location.now)) (sym c.as_slice.ensures.value) c.in_ok-last_clause.ensures.made) c.add_orders.result c.add_orders.ensures.appended c.add_orders.ensures.outcome

pub returns-clause-refused : goal.returns-clause-refused
returns-clause-refused c =
    let t = c.args.trace.now in
    let a = c.args.location.now in
    let gathered = c.in_ok-gathered.gathered in
    let asked = IsLastOrder t a gathered in
    with_gathered (AreGathered c.args.pieces.now) (IsLateRefused c.args.pieces.now) (IsLastLineRefused t a c.args.pieces.now) (IsLastRefused t a) (λ p. IsNoClause (IsLastOrder t a p)) (λ cause h. h) gathered c.in_ok-gathered.ensures.gathered c.add_orders.result
    (unmade_line asked c.as_slice.result.now (subst (λ (l : List OrderPair). AddsOnly [] l asked) (sym c.as_slice.ensures.value) (from_none asked c.new-orders.result.items c.last_clause.new.orders.items c.new-orders.ensures.items c.in_ok-last_clause.ensures.only))
    (IsLastRefused t a gathered) c.add_orders.new.list.variables c.add_orders.result c.add_orders.ensures.refused)

pub returns-in_err-gathered-clause-refused : goal.returns-in_err-gathered-clause-refused
returns-in_err-gathered-clause-refused c =
    refusal_on (IsLateRefused c.args.pieces.now) (IsLastLineRefused c.args.trace.now c.args.location.now c.args.pieces.now) c.from_residual.result c.in_err-gathered.field-0.0 c.from_residual.ensures.1 (λ cause h. inl h) c.in_err-gathered.ensures.refused

pub returns-in_err-last_clause-clause-refused : goal.returns-in_err-last_clause-clause-refused
returns-in_err-last_clause-clause-refused c =
    refusal_on (IsLastRefused c.args.trace.now c.args.location.now c.in_ok-gathered.gathered) (IsLastLineRefused c.args.trace.now c.args.location.now c.args.pieces.now) c.from_residual-in_err-last_clause.result c.in_err-last_clause.field-0.0 c.from_residual-in_err-last_clause.ensures.1
    (λ cause h. inr (c.in_ok-gathered.gathered, c.in_ok-gathered.ensures.gathered, inl h)) c.in_err-last_clause.ensures.refused
