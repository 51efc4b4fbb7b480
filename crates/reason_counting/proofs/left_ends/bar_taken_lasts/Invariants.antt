use Rattle.std.proofs.Common.{take}
use Rattle.reason_clauses.specs.AddedOrders.{AddsOnly}
use Rattle.reason_clauses.specs.LastRefused.{IsLastOrder}
use Rattle.reason_clauses.specs.Numbered.{Grows}
use Rattle.reason_clauses.proofs.LastLemmas.{IsWrittenOr}
use Rattle.reason_counting.specs.Left.{KeepsOnly}
use Rattle.reason_counting.specs.LeftEnds.{AreLastRunsLeft, IsOtherEnd}
use Rattle.reason_counting.proofs.left_ends.bar_taken_lasts.Given as goal

abbrev pub invariant-loop-run : goal.invariant-loop-run
invariant-loop-run l =
    Grows l.fn.orders.items l.orders.items
    × AreLastRunsLeft l.trace l.orders.items l.left.items l.end.location.now l.end.pieces.now (take l.run-index l.runs)
    × IsWrittenOr l.is_written l.trace l.end.location.now (take l.run-index l.runs)
    × AddsOnly l.fn.orders.items l.orders.items (IsLastOrder l.trace l.end.location.now l.end.pieces.now)
    × KeepsOnly l.fn.left.items l.left.items (IsOtherEnd l.trace l.end.location.now l.end.pieces.now)
