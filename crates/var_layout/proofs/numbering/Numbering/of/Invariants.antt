use Rattle.std.proofs.Common.{◌≡◌, take}
use Rattle.std.specs.List.{flat_map}
use Rattle.var_layout.specs.Numbered.{numbered_in}
use Rattle.var_layout.proofs.numbering.Numbering.of.Given as goal

abbrev pub invariant-loop-process : goal.invariant-loop-process
invariant-loop-process l = l.operations.items ≡ flat_map numbered_in (take l.process-index l.processes)
