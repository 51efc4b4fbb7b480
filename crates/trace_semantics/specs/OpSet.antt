-- Sets of operations, as functions.
use Rattle.std.specs.Prelude.{Bool, is_some, ◌==◌, ◌&&◌}
use Rattle.std.specs.HashMap.{get_by}
use Rattle.std.specs.Str.{bytes_eq}
use Rattle.trace_semantics.specs.declared.operation.OpName.{OpName}
use Rattle.trace_semantics.specs.declared.op_set.OpSet.{OpSet}

-- the operation is in the set
abbrev pub has : OpSet → OpName → Bool
has set n = is_some (get_by (λ k. bytes_eq n.process k.0.now && (n.place == k.1)) set.members)
