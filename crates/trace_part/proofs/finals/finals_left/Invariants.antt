use Rattle.std.proofs.Common.{◌≡◌, take}
use Rattle.std.specs.List.{filter}
use Rattle.trace_part.specs.Selections.{ordered_in, chosen_in}
use Rattle.part_law.specs.Part.{stays_final}
use Rattle.trace_part.proofs.finals.finals_left.Given as goal

abbrev pub invariant-loop-k : goal.invariant-loop-k
invariant-loop-k l = l.left.items ≡ filter (stays_final l.selection.trace.now (ordered_in l.selection) (chosen_in l.selection)) (take l.k l.all)
