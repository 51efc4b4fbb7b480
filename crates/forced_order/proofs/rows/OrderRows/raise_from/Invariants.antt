use Rattle.std.proofs.Common.{◌≡◌, ◌≤◌, ◌<◌, ℕ, false}
use Rattle.trace_semantics.specs.Trace.{TraceValue}
use Rattle.forced_order.specs.Forced.{IsForcedByNumber, AreForced}
use Rattle.forced_order.specs.Raised.{IsRise}
use Rattle.forced_order.specs.Rows.{HasRow, last_before}
use Rattle.forced_order.proofs.rows.OrderRows.raise_from.Given as goal

abbrev pub invariant-loop-process : goal.invariant-loop-process
invariant-loop-process l = record {
  forced : (t : TraceValue) → IsForcedByNumber t l.fn.first l.fn.second → AreForced t l.fn.self → AreForced t l.self;
  rise : IsRise l.rose l.fn.self l.self;
  first : l.rose ≡ false → HasRow l.fn.self l.fn.second → l.fn.first.process < 64 → l.fn.first.place ≤ last_before l.self l.fn.second l.fn.first.process;
  before : l.rose ≡ false → HasRow l.fn.self l.fn.second → (q : ℕ) → q < l.process → last_before l.self l.fn.first q ≤ last_before l.self l.fn.second q;
}
