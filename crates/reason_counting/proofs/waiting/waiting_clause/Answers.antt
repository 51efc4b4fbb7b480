use Rattle.std.proofs.Common.{List, ℕ, length, map, refl, ap, sym, ◌∙◌, subst, arith, inl, inr}
use Rattle.trace_semantics.specs.Trace.{TraceValue}
use Rattle.writer_table.specs.declared.operation_place.OperationPlace.{OperationPlace}
use Rattle.order_clauses.specs.Numbered.{named, named_orders}
use Rattle.reason_clauses.proofs.AddedLemmas.{adds_over}
use Rattle.reason_clauses.proofs.RefusedLemmas.{refusal_on}
use Rattle.reason_counting.specs.WaitingRefused.{IsAwaitedOrder, IsAwaitedRefused, IsWaitingOrder, IsWaitingRefused}
use Rattle.reason_counting.specs.WaitingSet.{AreFirst, AreFirstKnown, HoldMembers, operations_of}
use Rattle.reason_counting.proofs.WaitLemmas.{first_known, no_waiters, waiting_next, waiting_by}
use Rattle.reason_counting.proofs.waiting.waiting_clause.Goals as goal

pub loop-k-init : goal.loop-k-init
loop-k-init c = (λ j d less. absurd (omega (arith, less)), λ o d. inl d)

pub loop-k-preserved : goal.loop-k-preserved
loop-k-preserved c =
    let t = c.args.trace.now in
    let waiters = c.args.waiters.now in
    let waiter = c.index-waiters-k.result in (
      waiting_next t c.loop-k.orders.items c.wait_for.new.orders.items waiters c.loop-k.k waiter c.in_ok-wait_for.ensures.grows c.loop-k.invariant.0 c.loop-k-test.true (sym c.index-waiters-k.is)
          (c.in_ok-wait_for.ensures.waits (operations_of waiters) (subst (λ (l : List ℕ). HoldMembers (operations_of waiters) l) (sym c.as_slice.ensures.value) c.in_ok-first.ensures.held)),
      adds_over c.args.orders.now.items c.loop-k.orders.items c.wait_for.new.orders.items (IsAwaitedOrder t waiter.operation waiter.awaited) (IsWaitingOrder t waiters) (λ o h. (waiter, (c.loop-k.k, c.loop-k-test.true, sym c.index-waiters-k.is), h)) c.loop-k.invariant.1 c.in_ok-wait_for.ensures.only,
    )

pub returns-clause-made : goal.returns-clause-made
returns-clause-made c =
    waiting_by c.args.trace.now c.loop-k.orders.items c.args.waiters.now c.if-count-eq0.false (λ j d low. c.loop-k.invariant.0 j d (let past = c.loop-k-test.false in omega (arith, low, past)))

pub returns-clause-holds : goal.returns-clause-holds
returns-clause-holds c =
    c.one_comes_first.ensures c.args.trace.now (named_orders c.args.trace.now c.loop-k.orders.items) (map (named c.args.trace.now) (operations_of c.args.waiters.now))
    (waiting_by c.args.trace.now c.loop-k.orders.items c.args.waiters.now c.if-count-eq0.false (λ j d low. c.loop-k.invariant.0 j d (let past = c.loop-k-test.false in omega (arith, low, past))) (named_orders c.args.trace.now c.loop-k.orders.items) (λ p d. d))

pub returns-then-count-eq0-clause-refused : goal.returns-then-count-eq0-clause-refused
returns-then-count-eq0-clause-refused c = inl (no_waiters c.args.waiters.now (let none = c.if-count-eq0.true in omega (arith, none)), refl)

pub returns-in_err-wait_for-clause-refused : goal.returns-in_err-wait_for-clause-refused
returns-in_err-wait_for-clause-refused c =
    let t = c.args.trace.now in
    let waiters = c.args.waiters.now in
    let waiter = c.index-waiters-k.result in
    let first = c.as_slice.result.now in
    let members = operations_of waiters in
    let all : AreFirstKnown t members first =
    subst (λ (l : List ℕ). AreFirstKnown t members l) (sym c.as_slice.ensures.value) (first_known t members c.in_ok-first.first.items (c.in_ok-first.ensures.long ∙ ap length c.processes.ensures) c.in_ok-first.ensures.first) in
    refusal_on (λ cause. (those : List OperationPlace) → AreFirstKnown t those first → IsAwaitedRefused t those waiter.operation waiter.awaited cause) (IsWaitingRefused t waiters) c.from_residual-in_err-wait_for.result c.in_err-wait_for.field-0.0 c.from_residual-in_err-wait_for.ensures.1
    (λ cause h. inr (waiter, (c.loop-k.k, c.loop-k-test.true, sym c.index-waiters-k.is), h members all)) c.in_err-wait_for.ensures.refused

pub returns-clause-only : goal.returns-clause-only
returns-clause-only c = c.loop-k.invariant.1
