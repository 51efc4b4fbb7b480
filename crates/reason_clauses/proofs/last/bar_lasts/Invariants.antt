use Rattle.std.proofs.Common.{take}
use Rattle.reason_clauses.specs.AddedOrders.{AddsOnly}
use Rattle.reason_clauses.specs.LastBarred.{AreLastsBarred}
use Rattle.reason_clauses.specs.LastRefused.{IsLastOrder}
use Rattle.reason_clauses.proofs.LastLemmas.{IsWrittenOr}
use Rattle.reason_clauses.proofs.last.bar_lasts.Given as goal

abbrev pub invariant-loop-run : goal.invariant-loop-run
invariant-loop-run l =
    AreLastsBarred l.trace l.orders.items l.end.location.now l.end.pieces.now (take l.run-index l.runs)
    × IsWrittenOr l.is_written l.trace l.end.location.now (take l.run-index l.runs)
    × AddsOnly l.fn.orders.items l.orders.items (IsLastOrder l.trace l.end.location.now l.end.pieces.now)
