-- What the makers of clauses find by numbers is so by names.
use Rattle.std.proofs.Common.{◌≡◌, ◌<◌, ◌≤◌, ◌+◌, ◌-◌, ℕ, List, length, get_or, ap, ◌∙◌, arith, inl, inr}
use Rattle.std.specs.Prelude.{Some, is_some}
use Rattle.std.specs.List.{slice_get}
use Rattle.std.specs.Option.{option_and_then}
use Rattle.trace_semantics.specs.declared.operation.Op.{Op}
use Rattle.trace_semantics.specs.declared.trace.Process.{Process}
use Rattle.trace_semantics.specs.Trace.{TraceValue, IsTrace, operation_at}
use Rattle.writer_table.specs.declared.operation_place.OperationPlace.{OperationPlace}
use Rattle.restriction.specs.Restriction.{left_by}
use Rattle.reason_clauses.specs.Makers.{read_by, IsNumberOf, DoesHide}
use Rattle.order_clauses.specs.Numbered.{named, IsKnown}
use Rattle.reason_clauses.specs.Numbered.{at_number, IsGivenWitness}
use Rattle.order_reasons.specs.Reasons.{IsWitness}
use Rattle.reason_clauses.proofs.NumberLemmas.{numbered_operation, numbers_apart}

pub number_of_operation : (t : TraceValue) → IsTrace t → (n : OperationPlace) (p : Process) (op : Op) → n.process < length t.processes → get_or t.processes n.process p ≡ p → 1 ≤ n.place → slice_get p.operations (n.place - 1) ≡ Some op → IsNumberOf t n op
number_of_operation t ok n p op low at some here = (low, ap (λ (x : OperationPlace). operation_at t (named t x)) same ∙ numbered_operation t ok n.process (n.place - 1) p op low at here)
  where
    place : n.place ≡ n.place - 1 + 1
    place = omega (arith, some)

    same : n ≡ at_number n.process (n.place - 1 + 1)
    same = λ i. record { process = n.process; place = place i }

pub number_known : (t : TraceValue) (n : OperationPlace) (op : Op) → IsNumberOf t n op → IsKnown t n
number_known t n op h = (h.0, ap is_some h.1)

pub hides_there : (t : TraceValue) (n : OperationPlace) (op : Op) (location : List ℕ) (d : ℕ) → IsNumberOf t n op → DoesHide location d op → IsWitness t location d (named t n)
hides_there t n op location d h (inl writes) = inl (ap (λ o. is_some (option_and_then (left_by location) o)) h.1 ∙ writes)
hides_there t n op location d h (inr (e, reads, other)) = inr (e, ap (option_and_then (read_by location)) h.1 ∙ reads, other)

pub given_witness : (t : TraceValue) → IsTrace t → (r x : OperationPlace) (op : Op) (location : List ℕ) (d : ℕ) → IsNumberOf t x op → DoesHide location d op → (x ≡ r → ⊥) → IsKnown t r → IsGivenWitness t location d r x
given_witness t ok r x op location d h hides other known = (number_known t x op h, hides_there t x op location d h hides, λ same. other (numbers_apart t ok x r (number_known t x op h) known same))
