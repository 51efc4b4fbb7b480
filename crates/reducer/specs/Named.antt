-- The set of the operations that a trace names.
use Rattle.std.specs.Prelude.{◌≡◌, ◌||◌}
use Rattle.trace_semantics.specs.declared.operation.OpName.{OpName}
use Rattle.trace_semantics.specs.OpSet.{has}
use Rattle.trace_semantics.specs.Trace.{TraceValue}
use Rattle.trace_semantics.specs.declared.op_set.OpSet.{OpSet}
use Rattle.reducer.specs.Reduction.{is_in_pair, is_an_origin}

-- the set has the operations that a before pair or an origin names
abbrev pub HasNamed : TraceValue → OpSet → Type 0
HasNamed t set = (n : OpName) → has set n ≡ (is_in_pair t n || is_an_origin t n)
