-- A before pair is a clause that holds.
use Rattle.std.proofs.Common.{◌≡◌, ◌<◌, ℕ, List, length, get_or, sym, ◌∙◌, subst}
use Rattle.std.proofs.lemmas.List.{get_or_default}
use Rattle.std.specs.List.{Contains}
use Rattle.trace_semantics.specs.declared.operation.OpName.{OpName}
use Rattle.trace_semantics.specs.declared.trace.Process.{Process}
use Rattle.trace_semantics.specs.Trace.{TraceValue}
use Rattle.writer_table.specs.declared.operation_place.OperationPlace.{OperationPlace}
use Rattle.order_clauses.specs.declared.order_pair.OrderPair.{OrderPair}
use Rattle.order_clauses.specs.Numbered.{named, named_orders, IsKnown}
use Rattle.order_reasons.specs.Orders.{HoldsOfSchedules}
use Rattle.order_reasons.proofs.OrderReasons.{pair_stands}
use Rattle.order_reasons.specs.Reasons.{IsPairClause}
use Rattle.reason_clauses.specs.Made.{Makes}
use Rattle.reason_clauses.specs.Numbered.{MakesSay}
use Rattle.reason_clauses.proofs.NumberLemmas.{name_at}

-- the numbers are those of the name
pub is_name_of : (t : TraceValue) (n : OperationPlace) (p : Process) (name : OpName) → n.process < length t.processes → get_or t.processes n.process p ≡ p → p.name ≡ name.process → n.place ≡ name.place → named t n ≡ name
is_name_of t n p name low at called place = λ i. record { process = (name_at t.processes n.process p low at ∙ called) i; place = place i }

-- what stands at a place of a list, whatever stands for no place
pub pair_at : (pairs : List (OpName × OpName)) (k : ℕ) (d pair : OpName × OpName) → k < length pairs → get_or pairs k d ≡ d → get_or pairs k pair ≡ pair → pair ≡ d
pair_at pairs k d pair low here is = sym is ∙ (get_or_default pairs k pair d low ∙ here)

pub pair_made : (t : TraceValue) (new : List OrderPair) (m n : OperationPlace) (pair : OpName × OpName) → Contains t.before pair → named t m ≡ pair.0 → named t n ≡ pair.1 → IsKnown t m → IsKnown t n → MakesSay new m n → Makes t new (λ clause. IsPairClause t clause (named t m) (named t n))
pair_made t new m n pair listed first second m_known n_known says clause all =
    (subst (λ (p : OpName × OpName). Contains t.before p) (λ i. (sym first i, sym second i)) listed, says t clause all m_known n_known)

pub pair_holds_by : (t : TraceValue) (new : List OrderPair) (m n : OperationPlace) → Makes t new (λ clause. IsPairClause t clause (named t m) (named t n)) → HoldsOfSchedules t (named_orders t new)
pair_holds_by t new m n made names legal = pair_stands t names legal.interleaving (named_orders t new) (named t m) (named t n) (made (named_orders t new) (λ p c. c))
