-- Which pairs are refused.
use Rattle.std.specs.Prelude.{◌≡◌, ◌⊎◌}
use Rattle.std.specs.List.{Contains}
use Rattle.trace_semantics.specs.Trace.{TraceValue}
use Rattle.order_clauses.specs.Numbered.{named_order, IsKnown}
use Rattle.order_clauses.specs.declared.order_pair.OrderPair.{OrderPair}
use Rattle.reason_clauses.specs.RefusedBy.{IsMissingNumber}
use Rattle.reason_clauses.specs.declared.cause.ReasonCause.{ReasonCause}
use Rattle.reason_clauses.specs.declared.cause.ReasonCause.TheVariants.{NoPair}

-- the trace has not both operations, or it has them and no before pair of the first and the second
abbrev pub IsPairRefused : TraceValue → OrderPair → ReasonCause → Type 0
IsPairRefused t order cause = (IsMissingNumber t order.first cause ⊎ IsMissingNumber t order.second cause) ⊎ (IsKnown t order.first × IsKnown t order.second × (Contains t.before (named_order t order) → ⊥) × (cause ≡ NoPair))
