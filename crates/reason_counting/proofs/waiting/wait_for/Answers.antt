use Rattle.std.proofs.Common.{sym, subst}
use Rattle.order_clauses.specs.declared.order_pair.OrderPair.{OrderPair}
use Rattle.reason_clauses.specs.AddedOrders.{AddsOnly}
use Rattle.std.specs.Prelude.{List}
use Rattle.writer_table.specs.declared.operation_place.OperationPlace.{OperationPlace}
use Rattle.reason_clauses.proofs.RefusedLemmas.{refusal_on}
use Rattle.reason_counting.specs.WaitingRefused.{IsAwaitedOrder, IsAwaitedRefused, IsSourceWaitRefused, IsWaitRefused}
use Rattle.reason_counting.specs.WaitingSet.{AreFirstKnown}
use Rattle.reason_counting.specs.declared.waiting.WaitsFor.{WaitsFor}
use Rattle.reason_counting.specs.declared.waiting.WaitsFor.TheVariants.{Operation}
use Rattle.reason_counting.proofs.waiting.wait_for.Goals as goal

pub returns-in_err-wait_for_operation-in-Operation-clause-refused : goal.returns-in_err-wait_for_operation-in-Operation-clause-refused
returns-in_err-wait_for_operation-in-Operation-clause-refused c =
    let t = c.args.waiting.now.trace.now in
    let m = c.args.waiter.now.operation in
    refusal_on (λ cause. (members : List OperationPlace) → AreFirstKnown t members c.args.waiting.now.first.now → IsWaitRefused t members m c.in-Operation.other cause)
    (λ cause. (members : List OperationPlace) → AreFirstKnown t members c.args.waiting.now.first.now → IsAwaitedRefused t members m c.args.waiter.now.awaited cause) c.from_residual.result c.in_err-wait_for_operation-in-Operation.field-0.0 c.from_residual.ensures.1
    (λ cause h members all. subst (λ (w : WaitsFor). IsAwaitedRefused t members m w cause) (sym c.in-Operation.is) (h members all)) c.in_err-wait_for_operation-in-Operation.ensures.refused

pub returns-in_err-wait_for_source-in-Source-clause-refused : goal.returns-in_err-wait_for_source-in-Source-clause-refused
returns-in_err-wait_for_source-in-Source-clause-refused c =
    let t = c.args.waiting.now.trace.now in
    let m = c.args.waiter.now.operation in
    refusal_on (λ cause. (members : List OperationPlace) → AreFirstKnown t members c.args.waiting.now.first.now → IsSourceWaitRefused t members m c.in-Source.pieces cause)
    (λ cause. (members : List OperationPlace) → AreFirstKnown t members c.args.waiting.now.first.now → IsAwaitedRefused t members m c.args.waiter.now.awaited cause) c.from_residual-in_err-wait_for_source-in-Source.result c.in_err-wait_for_source-in-Source.field-0.0 c.from_residual-in_err-wait_for_source-in-Source.ensures.1
    (λ cause h members all. subst (λ (w : WaitsFor). IsAwaitedRefused t members m w cause) (sym c.in-Source.is) (h members all)) c.in_err-wait_for_source-in-Source.ensures.refused

pub returns-in_ok-wait_for_operation-in-Operation-clause-only : goal.returns-in_ok-wait_for_operation-in-Operation-clause-only
returns-in_ok-wait_for_operation-in-Operation-clause-only c =
    subst (λ (w : WaitsFor). AddsOnly c.args.orders.now.items c.wait_for_operation.new.orders.items (IsAwaitedOrder c.args.waiting.now.trace.now c.args.waiter.now.operation w)) (sym c.in-Operation.is) c.in_ok-wait_for_operation-in-Operation.ensures.only

pub returns-in_ok-wait_for_source-in-Source-clause-only : goal.returns-in_ok-wait_for_source-in-Source-clause-only
returns-in_ok-wait_for_source-in-Source-clause-only c =
    subst (λ (w : WaitsFor). AddsOnly c.args.orders.now.items c.wait_for_source.new.orders.items (IsAwaitedOrder c.args.waiting.now.trace.now c.args.waiter.now.operation w)) (sym c.in-Source.is) c.in_ok-wait_for_source-in-Source.ensures.only
