use Rattle.reason_clauses.specs.AddedOrders.{AddsOnly}
use Rattle.reason_counting.specs.WaitingRefused.{IsWaitingOrder}
use Rattle.reason_counting.proofs.WaitLemmas.{AreWaiting}
use Rattle.reason_counting.proofs.waiting.waiting_clause.Given as goal

abbrev pub invariant-loop-k : goal.invariant-loop-k
invariant-loop-k l = AreWaiting l.trace l.orders.items l.waiters l.k × AddsOnly l.fn.orders.items l.orders.items (IsWaitingOrder l.trace l.waiters)
