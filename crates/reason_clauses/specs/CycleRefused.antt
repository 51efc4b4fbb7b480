-- Which cycles are refused, and what orders a cycle asks for.
use Rattle.std.specs.Prelude.{◌≡◌, ◌<◌, ◌+◌, ◌⊎◌, ℕ, List, [], length, slice_index_or}
use Rattle.trace_semantics.specs.Trace.{TraceValue}
use Rattle.writer_table.specs.declared.operation_place.OperationPlace.{OperationPlace}
use Rattle.order_clauses.specs.OrderVariables.{nowhere}
use Rattle.order_clauses.specs.declared.order_pair.OrderPair.{OrderPair}
use Rattle.reason_clauses.specs.AddedOrders.{IsOrder}
use Rattle.reason_clauses.specs.RefusedBy.{IsMissingNumber}
use Rattle.reason_clauses.specs.declared.cause.ReasonCause.{ReasonCause}
use Rattle.reason_clauses.specs.declared.cause.ReasonCause.TheVariants.{BadCycle}

-- in the cycle n comes next after m; after the last comes the first
abbrev pub IsStep : List OperationPlace → OperationPlace → OperationPlace → Type 0
IsStep operations m n = (k : ℕ) × (k < length operations) × (slice_index_or operations k nowhere ≡ m) × (slice_index_or operations (k + 1) (slice_index_or operations 0 nowhere) ≡ n)

-- the order turns a step of the cycle round
abbrev pub IsTurnedStep : List OperationPlace → OrderPair → Type 0
IsTurnedStep operations o = IsStep operations o.second o.first

-- the step from m to n leads from an operation to itself, or from one that the trace has not
abbrev pub IsStepRefused : TraceValue → OperationPlace → OperationPlace → ReasonCause → Type 0
IsStepRefused t m n cause = ((m ≡ n) × (cause ≡ BadCycle)) ⊎ IsMissingNumber t m cause

-- the cycle has no step, or one that is refused
abbrev pub IsCycleRefused : TraceValue → List OperationPlace → ReasonCause → Type 0
IsCycleRefused t operations cause = ((operations ≡ []) × (cause ≡ BadCycle)) ⊎ ((m : OperationPlace) × (n : OperationPlace) × IsStep operations m n × IsStepRefused t m n cause)
