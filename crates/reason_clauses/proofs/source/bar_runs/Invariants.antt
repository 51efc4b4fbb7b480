use Rattle.std.proofs.Common.{take, ℕ, List}
use Rattle.reason_clauses.specs.AddedOrders.{AddsOnly}
use Rattle.reason_clauses.specs.PossibleSources.{AreWholeRuns, IsOwnExact}
use Rattle.reason_clauses.specs.SourceRefused.{IsStretchOrder}
use Rattle.reason_clauses.specs.Barred.{AreRunsBarred}
use Rattle.reason_clauses.specs.Numbered.{Grows}
use Rattle.reason_clauses.proofs.source.bar_runs.Given as goal

abbrev pub invariant-loop-run : goal.invariant-loop-run
invariant-loop-run l =
    Grows l.fn.orders.items l.orders.items
    × AreRunsBarred l.trace l.orders.items l.reader.operation l.reader.read.origin.now l.own l.reader.pieces.now (take l.run-index l.runs)
    × ((location : List ℕ) (d : ℕ) → AreWholeRuns l.trace location d l.runs → IsOwnExact l.trace l.reader.operation l.reader.read.origin.now location d l.own → AddsOnly l.fn.orders.items l.orders.items (IsStretchOrder l.trace l.reader.operation l.reader.pieces.now l.reader.read.origin.now location d))
