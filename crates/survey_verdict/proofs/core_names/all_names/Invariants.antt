use Rattle.std.proofs.Common.{◌≡◌, take}
use Rattle.std.specs.List.{flat_map}
use Rattle.restriction.specs.Left.{names_of}
use Rattle.survey_verdict.proofs.core_names.all_names.Given as goal

abbrev pub invariant-loop-process : goal.invariant-loop-process
invariant-loop-process l = l.names.items ≡ flat_map names_of (take l.process-index l.processes)
