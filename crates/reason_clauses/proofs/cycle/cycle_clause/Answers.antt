use Rattle.std.proofs.Common.{◌<◌, ◌+◌, length, get_or, sym, ◌∙◌, subst, arith, inl, inr, refl}
use Rattle.order_clauses.specs.OrderVariables.{nowhere}
use Rattle.reason_clauses.specs.AddedOrders.{IsOrder}
use Rattle.reason_clauses.specs.Cycle.{IsTurned}
use Rattle.reason_clauses.specs.CycleRefused.{IsCycleRefused, IsStepRefused, IsTurnedStep}
use Rattle.reason_clauses.proofs.AddedLemmas.{adds_over}
use Rattle.reason_clauses.proofs.CycleLemmas.{no_operations, turned_next, turned_cycle, turned_holds}
use Rattle.reason_clauses.proofs.RefusedLemmas.{refusal_on}
use Rattle.reason_clauses.proofs.cycle.cycle_clause.Goals as goal

pub loop-place-init : goal.loop-place-init
loop-place-init c = (λ j less. absurd (omega (arith, less)), λ o d. inl d)

pub loop-place-preserved : goal.loop-place-preserved
loop-place-preserved c =
    let t = c.args.trace.now in
    let ops = c.args.operations.now in
    let n = c.loop-place.place in
    let new = c.push_turned.new.orders.items in
    let low : n < length ops = (let inside = c.loop-place-test.true in omega (arith, inside)) in (
      turned_next t c.loop-place.orders.items new ops n c.in_ok-push_turned.ensures.grows c.loop-place.invariant.0
          (subst (λ u. IsTurned t new u (get_or ops (n + 1) (get_or ops 0 nowhere))) c.at-from.ensures (subst (λ v. IsTurned t new c.at-from.result v) c.next_of-to.ensures c.in_ok-push_turned.ensures.turned)),
      adds_over c.args.orders.now.items c.loop-place.orders.items new (IsOrder c.next_of-to.result c.at-from.result) (IsTurnedStep ops) (λ o h. (n, low, sym c.at-from.ensures ∙ sym h.1, sym c.next_of-to.ensures ∙ sym h.0)) c.loop-place.invariant.1 c.in_ok-push_turned.ensures.only,
    )

pub returns-clause-made : goal.returns-clause-made
returns-clause-made c = turned_cycle c.args.trace.now c.loop-place.orders.items c.args.operations.now c.if-count-eq0.false (λ j low. c.loop-place.invariant.0 j (let past = c.loop-place-test.false in omega (arith, low, past)))

pub returns-clause-holds : goal.returns-clause-holds
returns-clause-holds c = turned_holds c.args.trace.now c.loop-place.orders.items c.args.operations.now c.if-count-eq0.false (λ j low. c.loop-place.invariant.0 j (let past = c.loop-place-test.false in omega (arith, low, past)))

pub returns-in_err-push_turned-clause-refused : goal.returns-in_err-push_turned-clause-refused
returns-in_err-push_turned-clause-refused c =
    let t = c.args.trace.now in
    let ops = c.args.operations.now in
    let n = c.loop-place.place in
    let low : n < length ops = (let inside = c.loop-place-test.true in omega (arith, inside)) in
    refusal_on (IsStepRefused t c.at-from.result c.next_of-to.result) (IsCycleRefused t ops) c.from_residual.result c.in_err-push_turned.field-0.0 c.from_residual.ensures.1
    (λ cause h. inr (c.at-from.result, c.next_of-to.result, (n, low, sym c.at-from.ensures, sym c.next_of-to.ensures), h)) c.in_err-push_turned.ensures.refused

pub returns-clause-only : goal.returns-clause-only
returns-clause-only c = c.loop-place.invariant.1

pub returns-then-count-eq0-clause-refused : goal.returns-then-count-eq0-clause-refused
returns-then-count-eq0-clause-refused c = inl (no_operations c.args.operations.now (let none = c.if-count-eq0.true in omega (arith, none)), refl)
