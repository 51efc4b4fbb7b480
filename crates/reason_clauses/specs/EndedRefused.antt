-- Which pairs of operations are refused of which one is to have ended before the other began.
use Rattle.std.specs.Prelude.{◌≡◌, ◌⊎◌, false}
use Rattle.trace_semantics.specs.KnownOrder.{ended_before}
use Rattle.trace_semantics.specs.Trace.{TraceValue}
use Rattle.order_clauses.specs.Numbered.{named, IsKnown}
use Rattle.order_clauses.specs.declared.order_pair.OrderPair.{OrderPair}
use Rattle.reason_clauses.specs.RefusedBy.{IsMissingNumber}
use Rattle.reason_clauses.specs.declared.cause.ReasonCause.{ReasonCause}
use Rattle.reason_clauses.specs.declared.cause.ReasonCause.TheVariants.{NoPair}

-- the trace has not both operations, or it has them and the first had not ended before the second began
abbrev pub IsEndedRefused : TraceValue → OrderPair → ReasonCause → Type 0
IsEndedRefused t order cause = (IsMissingNumber t order.first cause ⊎ IsMissingNumber t order.second cause) ⊎ (IsKnown t order.first × IsKnown t order.second × (ended_before t (named t order.first) (named t order.second) ≡ false) × (cause ≡ NoPair))
