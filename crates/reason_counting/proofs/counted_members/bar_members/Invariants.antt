use Rattle.reason_clauses.specs.AddedOrders.{AddsOnly}
use Rattle.reason_counting.specs.CountedMembers.{AreFirstBarred}
use Rattle.reason_counting.specs.CountingRefused.{IsCountingOrder, IsInitialToSome, IsLeftToSome}
use Rattle.reason_counting.specs.DistinctSources.{KeptOnly}
use Rattle.reason_counting.proofs.counted_members.bar_members.Given as goal

abbrev pub invariant-loop-k : goal.invariant-loop-k
invariant-loop-k l = AreFirstBarred l.trace l.orders.items l.kept l.members l.k × AddsOnly l.fn.orders.items l.orders.items (IsCountingOrder l.trace l.members) × KeptOnly l.fn.kept l.kept (IsLeftToSome l.trace l.members) (IsInitialToSome l.trace l.members)
