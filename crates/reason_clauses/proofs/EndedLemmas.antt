-- What had ended before another began is a clause that holds.
use Rattle.std.proofs.Common.{◌≡◌, List, true, ◌∙◌, ap}
use Rattle.std.specs.Option.{option_and_then}
use Rattle.trace_semantics.specs.declared.operation.Op.{Op}
use Rattle.trace_semantics.specs.KnownOrder.{ended_before, ends_before, span_at}
use Rattle.trace_semantics.specs.Operation.{span_of}
use Rattle.trace_semantics.specs.Trace.{TraceValue}
use Rattle.writer_table.specs.declared.operation_place.OperationPlace.{OperationPlace}
use Rattle.order_clauses.specs.declared.order_pair.OrderPair.{OrderPair}
use Rattle.order_clauses.specs.Numbered.{named, named_orders}
use Rattle.order_reasons.specs.Orders.{HoldsOfSchedules}
use Rattle.order_reasons.specs.Reasons.{IsTimesClause}
use Rattle.order_reasons.proofs.OrderReasons.{times_stand}
use Rattle.reason_clauses.specs.Made.{Makes}
use Rattle.reason_clauses.specs.Makers.{IsNumberOf}
use Rattle.reason_clauses.specs.Numbered.{MakesSay}
use Rattle.reason_clauses.proofs.MakerLemmas.{number_known}

-- the spans of two operations by their numbers
pub ended_is : (t : TraceValue) (m n : OperationPlace) (first second : Op) → IsNumberOf t m first → IsNumberOf t n second → ended_before t (named t m) (named t n) ≡ ends_before (span_of first) (span_of second)
ended_is t m n first second m_is n_is =
    let m_span : span_at t (named t m) ≡ span_of first = ap (option_and_then span_of) m_is.1 in
    let n_span : span_at t (named t n) ≡ span_of second = ap (option_and_then span_of) n_is.1 in
    λ i. ends_before (m_span i) (n_span i)

pub ended_made : (t : TraceValue) (new : List OrderPair) (m n : OperationPlace) (first second : Op) → IsNumberOf t m first → IsNumberOf t n second → ends_before (span_of first) (span_of second) ≡ true → MakesSay new m n → Makes t new (λ clause. IsTimesClause t clause (named t m) (named t n))
ended_made t new m n first second m_is n_is ended says clause all =
    (ended_is t m n first second m_is n_is ∙ ended, says t clause all (number_known t m first m_is) (number_known t n second n_is))

pub ended_holds_by : (t : TraceValue) (new : List OrderPair) (m n : OperationPlace) → Makes t new (λ clause. IsTimesClause t clause (named t m) (named t n)) → HoldsOfSchedules t (named_orders t new)
ended_holds_by t new m n made names legal = times_stand t names legal.interleaving (named_orders t new) (named t m) (named t n) (made (named_orders t new) (λ p c. c))
