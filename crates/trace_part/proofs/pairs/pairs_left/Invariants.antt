use Rattle.std.proofs.Common.{◌≡◌, map, take}
use Rattle.std.specs.Prelude.{Option}
use Rattle.std.specs.List.{filter}
use Rattle.trace_semantics.specs.declared.operation.Op.{Op}
use Rattle.trace_semantics.specs.declared.operation.OpName.{OpName}
use Rattle.restriction.specs.Left.{new_pair}
use Rattle.part_law.specs.Part.{is_told, left_pairs}
use Rattle.forced_order.specs.Rows.{ordered_by}
use Rattle.trace_part.specs.Rows.{Leaves}
use Rattle.trace_part.proofs.pairs.pairs_left.Given as goal

abbrev pub invariant-loop-k : goal.invariant-loop-k
invariant-loop-k l = (stays : OpName → Option Op) → Leaves l.trace stays l.all → l.pairs.items ≡ map (new_pair stays) (take l.k (filter (is_told l.trace (ordered_by l.trace l.order) stays) (left_pairs l.trace stays)))
