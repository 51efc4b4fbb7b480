use Rattle.std.proofs.Common.{◌≡◌, map}
use Rattle.std.specs.List.{filter, filter_map}
use Rattle.trace_semantics.specs.declared.operation.OpName.{OpName}
use Rattle.trace_semantics.specs.Trace.{first_names}
use Rattle.restriction.specs.Left.{is_left}
use Rattle.trace_part.specs.Selections.{stays_in}
use Rattle.trace_part.proofs.left.left_of.Given as goal

abbrev pub invariant-loop-k : goal.invariant-loop-k
invariant-loop-k l =
    (l.places.items ≡ map (λ (n : OpName). n.place) (filter (is_left (stays_in l.selection)) (first_names l.process.name l.k)))
    × (l.ops.items ≡ filter_map (stays_in l.selection) (first_names l.process.name l.k))
