use Rattle.std.proofs.Common.{◌≡◌, true, false, refl, sym, ◌∙◌, inl, inr}
use Rattle.trace_semantics.specs.KnownOrder.{ends_before}
use Rattle.trace_semantics.specs.Operation.{span_of}
use Rattle.order_clauses.specs.Numbered.{named}
use Rattle.order_reasons.specs.Reasons.{IsTimesClause}
use Rattle.reason_clauses.specs.EndedRefused.{IsEndedRefused}
use Rattle.reason_clauses.specs.Made.{Makes}
use Rattle.reason_clauses.specs.RefusedBy.{IsMissingNumber}
use Rattle.reason_clauses.proofs.EndedLemmas.{ended_is, ended_made, ended_holds_by}
use Rattle.reason_clauses.proofs.MakerLemmas.{number_known}
use Rattle.reason_clauses.proofs.RefusedLemmas.{refusal_on}
use Rattle.reason_clauses.proofs.ended.ended_clause.Goals as goal

pub returns-clause-made : goal.returns-clause-made
returns-clause-made c =
    let ended : ends_before (span_of c.in_ok-first.first.now) (span_of c.in_ok-second.second.now) ≡ true = (λ i. ends_before (sym c.span.ensures i) (sym c.span-2.ensures i)) ∙ sym c.ends_before.ensures ∙ c.if-not-ends_before.false in
    ended_made c.args.trace.now c.push_order.new.orders.items c.args.order.first c.args.order.second c.in_ok-first.first.now c.in_ok-second.second.now c.in_ok-first.ensures.there c.in_ok-second.ensures.there ended c.in_ok-push_order.ensures.says

pub returns-clause-holds : goal.returns-clause-holds
returns-clause-holds c =
    let t = c.args.trace.now in
    let made : Makes t c.push_order.new.orders.items (λ clause. IsTimesClause t clause (named t c.args.order.first) (named t c.args.order.second)) = returns-clause-made c in
    ended_holds_by t c.push_order.new.orders.items c.args.order.first c.args.order.second made

pub returns-then-not-ends_before-clause-refused : goal.returns-then-not-ends_before-clause-refused
returns-then-not-ends_before-clause-refused c =
    let apart : ends_before (span_of c.in_ok-first.first.now) (span_of c.in_ok-second.second.now) ≡ false = (λ i. ends_before (sym c.span.ensures i) (sym c.span-2.ensures i)) ∙ sym c.ends_before.ensures ∙ c.if-not-ends_before.true in
    let t = c.args.trace.now in
    inr (
      number_known t c.args.order.first _ c.in_ok-first.ensures.there,
      number_known t c.args.order.second _ c.in_ok-second.ensures.there,
      ended_is t c.args.order.first c.args.order.second c.in_ok-first.first.now c.in_ok-second.second.now c.in_ok-first.ensures.there c.in_ok-second.ensures.there ∙ apart,
      refl,
    )

pub returns-in_err-first-clause-refused : goal.returns-in_err-first-clause-refused
returns-in_err-first-clause-refused c =
    refusal_on (IsMissingNumber c.args.trace.now c.args.order.first) (IsEndedRefused c.args.trace.now c.args.order) c.from_residual.result c.in_err-first.field-0.0 c.from_residual.ensures.1 (λ cause h. inl (inl h)) c.in_err-first.ensures.refused

pub returns-in_err-second-clause-refused : goal.returns-in_err-second-clause-refused
returns-in_err-second-clause-refused c =
    refusal_on (IsMissingNumber c.args.trace.now c.args.order.second) (IsEndedRefused c.args.trace.now c.args.order) c.from_residual-in_err-second.result c.in_err-second.field-0.0 c.from_residual-in_err-second.ensures.1 (λ cause h. inl (inr h)) c.in_err-second.ensures.refused
