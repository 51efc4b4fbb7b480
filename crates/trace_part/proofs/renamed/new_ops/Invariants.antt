use Rattle.std.proofs.Common.{◌≡◌, map, take}
use Rattle.std.specs.Prelude.{Option}
use Rattle.trace_semantics.specs.declared.operation.Op.{Op}
use Rattle.trace_semantics.specs.declared.operation.OpName.{OpName}
use Rattle.restriction.specs.Left.{new_op}
use Rattle.restriction.specs.PlacesLeft.{ArePlacesLeft}
use Rattle.trace_part.proofs.renamed.new_ops.Given as goal

abbrev pub invariant-loop-k : goal.invariant-loop-k
invariant-loop-k l = (stays : OpName → Option Op) → ArePlacesLeft l.trace stays l.fn.places → l.new.items ≡ map (new_op stays) (take l.k l.old)
