use Rattle.std.proofs.Common.{◌≡◌, map, take}
use Rattle.std.specs.Prelude.{Option}
use Rattle.trace_semantics.specs.declared.operation.Op.{Op}
use Rattle.trace_semantics.specs.declared.operation.OpName.{OpName}
use Rattle.restriction.specs.Left.{left_process}
use Rattle.restriction.specs.PlacesLeft.{ArePlacesLeft}
use Rattle.trace_part.specs.Rows.{AreLeft}
use Rattle.trace_part.proofs.renamed.processes_by.Given as goal

abbrev pub invariant-loop-k : goal.invariant-loop-k
invariant-loop-k l = (stays : OpName → Option Op) → ArePlacesLeft l.trace stays l.fn.places → AreLeft l.trace stays l.all → l.new.items ≡ map (left_process stays) (take l.k l.processes)
