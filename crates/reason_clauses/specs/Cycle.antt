-- A step of a cycle.
use Rattle.std.specs.Prelude.{◌≡◌, List}
use Rattle.trace_semantics.specs.declared.operation.OpName.{OpName}
use Rattle.trace_semantics.specs.Trace.{TraceValue}
use Rattle.writer_table.specs.declared.operation_place.OperationPlace.{OperationPlace}
use Rattle.order_clauses.specs.declared.order_pair.OrderPair.{OrderPair}
use Rattle.order_clauses.specs.Numbered.{named, IsKnown}
use Rattle.reason_clauses.specs.Numbered.{AreIn}
use Rattle.order_reasons.specs.Reasons.{Says}

-- u is known, and each clause that has the new pairs says that v, another operation, stands before u
pub record IsTurned (t : TraceValue) (new : List OrderPair) (u v : OperationPlace) : Type 0 where
  pub known : IsKnown t u
  pub other : IsKnown t v → named t u ≡ named t v → ⊥
  pub says : (clause : List (OpName × OpName)) → AreIn t new clause → IsKnown t v → Says t clause (named t v) (named t u)
