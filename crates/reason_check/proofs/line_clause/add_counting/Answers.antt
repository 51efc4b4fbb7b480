use Rattle.std.proofs.Common.{◌⊎◌, List, [], inl, inr, subst, sym}
use Rattle.order_clauses.specs.declared.order_pair.OrderPair.{OrderPair}
use Rattle.reason_clauses.specs.AddedOrders.{AddsOnly}
use Rattle.reason_clauses.specs.Made.{Makes}
use Rattle.reason_clauses.proofs.RefusedLemmas.{refusal_on}
use Rattle.reason_counting.specs.CountingRefused.{IsCountingOrder, IsCountingRefused}
use Rattle.reason_check.specs.LineClauses.{IsCountingOf}
use Rattle.reason_check.specs.Members.{AreMembers, AreMembersRefused}
use Rattle.reason_check.specs.RefusedByTrace.{IsCountingLineRefused, IsNoClause}
use Rattle.reason_check.proofs.LineLemmas.{next_if_made}
use Rattle.reason_check.proofs.OutcomeLemmas.{from_none, unmade_line, with_gathered}
use Rattle.reason_check.proofs.line_clause.add_counting.Goals as goal

pub returns-clause-made : goal.returns-clause-made
returns-clause-made c =
    let t = c.args.trace.now in
    let made = c.in_ok-counting_clause.ensures.made in
    next_if_made t (IsCountingOf t) c.args.list.now c.add_orders.new.list c.as_slice-2.result.now
    (subst (λ (l : List OrderPair). Makes t l (IsCountingOf t)) (sym c.as_slice-2.ensures.value) (λ clause all. (_, made.0, made.1 clause all))) c.add_orders.result c.add_orders.ensures.appended c.add_orders.ensures.outcome

pub returns-clause-refused : goal.returns-clause-refused
returns-clause-refused c =
    let t = c.args.trace.now in
    let members = c.as_slice.result.now in
    let asked = IsCountingOrder t members in
    with_gathered (AreMembers c.args.parts.now) (AreMembersRefused c.args.parts.now) (IsCountingLineRefused t c.args.parts.now) (IsCountingRefused t) (λ g. IsNoClause (IsCountingOrder t g)) (λ cause h. h) members
    (subst (AreMembers c.args.parts.now) (sym c.as_slice.ensures.value) c.in_ok-members.ensures.gathered) c.add_orders.result
    (unmade_line asked c.as_slice-2.result.now (subst (λ (l : List OrderPair). AddsOnly [] l asked) (sym c.as_slice-2.ensures.value) (from_none asked c.new-orders.result.items c.counting_clause.new.orders.items c.new-orders.ensures.items c.in_ok-counting_clause.ensures.only))
    (IsCountingRefused t members) c.add_orders.new.list.variables c.add_orders.result c.add_orders.ensures.refused)

pub returns-in_err-members-clause-refused : goal.returns-in_err-members-clause-refused
returns-in_err-members-clause-refused c =
    refusal_on (AreMembersRefused c.args.parts.now) (IsCountingLineRefused c.args.trace.now c.args.parts.now) c.from_residual.result c.in_err-members.field-0.0 c.from_residual.ensures.1 (λ cause h. inl h) c.in_err-members.ensures.refused

pub returns-in_err-counting_clause-clause-refused : goal.returns-in_err-counting_clause-clause-refused
returns-in_err-counting_clause-clause-refused c =
    refusal_on (IsCountingRefused c.args.trace.now c.as_slice.result.now) (IsCountingLineRefused c.args.trace.now c.args.parts.now) c.from_residual-in_err-counting_clause.result c.in_err-counting_clause.field-0.0 c.from_residual-in_err-counting_clause.ensures.1
    (λ cause h. inr (c.as_slice.result.now, subst (AreMembers c.args.parts.now) (sym c.as_slice.ensures.value) c.in_ok-members.ensures.gathered, inl h)) c.in_err-counting_clause.ensures.refused
