use Rattle.std.proofs.Common.{◌≡◌, take}
use Rattle.std.specs.Prelude.{Option}
use Rattle.trace_semantics.specs.declared.operation.Op.{Op}
use Rattle.trace_semantics.specs.declared.operation.OpName.{OpName}
use Rattle.trace_part.specs.Rows.{Leaves}
use Rattle.trace_part.specs.Told.{groups_of}
use Rattle.trace_part.proofs.left_names.left_groups.Given as goal

abbrev pub invariant-loop-k : goal.invariant-loop-k
invariant-loop-k l = (stays : OpName → Option Op) → Leaves l.trace stays l.all → l.groups.items ≡ take l.k (groups_of l.trace stays)
