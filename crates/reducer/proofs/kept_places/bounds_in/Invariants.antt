use Rattle.std.proofs.Common.{◌≡◌, map}
use Rattle.std.specs.List.{filter}
use Rattle.trace_semantics.specs.declared.operation.OpName.{OpName}
use Rattle.trace_semantics.specs.Trace.{first_names}
use Rattle.reducer.specs.Runs.{keeps}
use Rattle.reducer.proofs.kept_places.bounds_in.Given as goal

abbrev pub invariant-loop-k : goal.invariant-loop-k
invariant-loop-k l = l.places.items ≡ map (λ (n : OpName). n.place) (filter (keeps l.fn.set l.process) (first_names l.process.name l.k))
