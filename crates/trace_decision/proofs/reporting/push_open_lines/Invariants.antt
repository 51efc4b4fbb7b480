use Rattle.std.proofs.Common.{◌≡◌, ◌++◌, take}
use Rattle.std.specs.List.{flat_map}
use Rattle.trace_decision.specs.Decision.{open_line}
use Rattle.trace_decision.proofs.reporting.push_open_lines.Given as goal

abbrev pub invariant-loop-cube : goal.invariant-loop-cube
invariant-loop-cube l = l.text.items ≡ l.initial.text.items ++ flat_map open_line (take l.cube-index l.cubes)
