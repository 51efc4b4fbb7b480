use Rattle.std.proofs.Common.{◌≡◌, true, false, refl, sym, ◌∙◌, inl, inr}
use Rattle.order_clauses.specs.Numbered.{named}
use Rattle.order_reasons.specs.Reasons.{IsPairClause}
use Rattle.reason_clauses.specs.Made.{Makes}
use Rattle.reason_clauses.specs.PairRefused.{IsPairRefused}
use Rattle.reason_clauses.specs.RefusedBy.{IsMissingNumber}
use Rattle.reason_clauses.proofs.MakerLemmas.{number_known}
use Rattle.reason_clauses.proofs.RefusedLemmas.{refusal_on}
use Rattle.reason_clauses.proofs.PairLemmas.{pair_made, pair_holds_by}
use Rattle.reason_clauses.proofs.pair.pair_clause.Goals as goal

pub returns-clause-made : goal.returns-clause-made
returns-clause-made c =
    let t = c.args.trace.now in
    pair_made t c.push_order.new.orders.items c.args.order.first c.args.order.second (named t c.args.order.first, named t c.args.order.second) (c.is_pair.ensures.only c.if-not-is_pair.false) refl refl
    (number_known t c.args.order.first _ c.in_ok-_first.ensures.there) (number_known t c.args.order.second _ c.in_ok-_second.ensures.there) c.in_ok-push_order.ensures.says

pub returns-clause-holds : goal.returns-clause-holds
returns-clause-holds c =
    let t = c.args.trace.now in
    let made : Makes t c.push_order.new.orders.items (λ clause. IsPairClause t clause (named t c.args.order.first) (named t c.args.order.second)) = returns-clause-made c in
    pair_holds_by t c.push_order.new.orders.items c.args.order.first c.args.order.second made

pub returns-then-not-is_pair-clause-refused : goal.returns-then-not-is_pair-clause-refused
returns-then-not-is_pair-clause-refused c =
    let t = c.args.trace.now in
    let first = number_known t c.args.order.first _ c.in_ok-_first.ensures.there in
    let second = number_known t c.args.order.second _ c.in_ok-_second.ensures.there in
    inr (first, second, λ listed. (let clash : true ≡ false = sym (c.is_pair.ensures.found listed first second) ∙ c.if-not-is_pair.true in absurd (cc)), refl)

pub returns-in_err-_first-clause-refused : goal.returns-in_err-_first-clause-refused
returns-in_err-_first-clause-refused c =
    refusal_on (IsMissingNumber c.args.trace.now c.args.order.first) (IsPairRefused c.args.trace.now c.args.order) c.from_residual.result c.in_err-_first.field-0.0 c.from_residual.ensures.1 (λ cause h. inl (inl h)) c.in_err-_first.ensures.refused

pub returns-in_err-_second-clause-refused : goal.returns-in_err-_second-clause-refused
returns-in_err-_second-clause-refused c =
    refusal_on (IsMissingNumber c.args.trace.now c.args.order.second) (IsPairRefused c.args.trace.now c.args.order) c.from_residual-in_err-_second.result c.in_err-_second.field-0.0 c.from_residual-in_err-_second.ensures.1 (λ cause h. inl (inr h)) c.in_err-_second.ensures.refused
