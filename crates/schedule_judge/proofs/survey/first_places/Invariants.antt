use Rattle.std.proofs.Common.{◌≡◌, drop}
use Rattle.std.specs.List.{position_from}
use Rattle.trace_semantics.specs.declared.operation.OpName.{OpName}
use Rattle.trace_semantics.specs.Operation.{same_op}
use Rattle.schedule_judge.specs.Tables.{number_at}
use Rattle.schedule_judge.proofs.survey.first_places.Given as goal

abbrev pub invariant-loop-k : goal.invariant-loop-k
invariant-loop-k l = (n : OpName) → number_at l.places n ≡ position_from (same_op n) l.k (drop l.k l.names)
