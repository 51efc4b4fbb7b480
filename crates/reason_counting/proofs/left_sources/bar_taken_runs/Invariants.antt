use Rattle.std.proofs.Common.{ℕ, List, take}
use Rattle.reason_clauses.specs.Numbered.{Grows}
use Rattle.reason_clauses.specs.PossibleSources.{AreWholeRuns, IsOwnExact}
use Rattle.reason_counting.specs.Left.{AreRunsLeft}
use Rattle.reason_counting.specs.OtherSources.{TakesOnly}
use Rattle.reason_counting.proofs.left_sources.bar_taken_runs.Given as goal

abbrev pub invariant-loop-run : goal.invariant-loop-run
invariant-loop-run l =
    Grows l.fn.orders.items l.orders.items
    × AreRunsLeft l.trace l.orders.items l.left.items l.reader.read.value l.reader.operation l.reader.read.origin.now l.own l.reader.pieces.now (take l.run-index l.runs)
    × ((location : List ℕ) → IsOwnExact l.trace l.reader.operation l.reader.read.origin.now location l.reader.read.value l.own → AreWholeRuns l.trace location l.reader.read.value l.runs → TakesOnly l.trace l.reader.operation l.reader.pieces.now l.reader.read.origin.now location l.reader.read.value l.fn.orders.items l.orders.items l.fn.left.items l.left.items)
