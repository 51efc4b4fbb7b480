use Rattle.std.proofs.Common.{◌≡◌, map, take}
use Rattle.trace_semantics.specs.declared.trace.Process.{Process}
use Rattle.restriction.specs.Left.{names_of}
use Rattle.trace_part.specs.Selections.{stays_in}
use Rattle.trace_part.specs.Rows.{left_value}
use Rattle.trace_part.proofs.left.all_left.Given as goal

abbrev pub invariant-loop-k : goal.invariant-loop-k
invariant-loop-k l = l.all.items ≡ map (λ (p : Process). left_value (stays_in l.selection) (names_of p)) (take l.k l.processes)
