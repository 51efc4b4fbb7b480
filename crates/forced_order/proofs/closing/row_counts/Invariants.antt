use Rattle.std.proofs.Common.{◌≡◌, ◌+◌, length, map, take}
use Rattle.trace_semantics.specs.declared.trace.Process.{Process}
use Rattle.forced_order.proofs.closing.row_counts.Given as goal

abbrev pub invariant-loop-p : goal.invariant-loop-p
invariant-loop-p l = l.counts.items ≡ map (λ (p : Process). length p.operations + 1) (take l.p-index l.processes)
