use Rattle.std.proofs.Common.{◌≡◌, take}
use Rattle.std.specs.List.{flat_map}
use Rattle.restriction.specs.Left.{names_of}
use Rattle.schedule_decode.proofs.operation_names.names_by_number.Given as goal

abbrev pub invariant-loop-process : goal.invariant-loop-process
invariant-loop-process l = l.names.items ≡ flat_map names_of (take l.process-index l.processes)
