-- Numbers that are of no operation of a trace.
use Rattle.std.proofs.Common.{◌≡◌, ◌<◌, ◌≤◌, ◌+◌, ◌-◌, length, get_or, ap, sym, ◌∙◌, arith, subst}
use Rattle.std.specs.Prelude.{Option, Some, None, is_some, IsSome}
use Rattle.std.specs.Option.{option_and_then}
use Rattle.std.proofs.lemmas.Option.{slice_get_past}
use Rattle.trace_semantics.specs.declared.trace.Process.{Process}
use Rattle.trace_semantics.specs.Trace.{TraceValue, IsTrace, operation_at, process_named, at_place}
use Rattle.writer_table.specs.declared.operation_place.OperationPlace.{OperationPlace}
use Rattle.order_clauses.specs.Numbered.{named, IsKnown}
use Rattle.reason_clauses.specs.Numbered.{at_number}
use Rattle.reason_clauses.proofs.NumberLemmas.{numbered_place}

nothing_at_zero : (o : Option Process) → IsSome (option_and_then (λ (p : Process). at_place p.operations 0) o) → ⊥
nothing_at_zero None h = absurd (cc)
nothing_at_zero (Some p) h = absurd (cc)

-- places are counted from 1
pub no_place : (t : TraceValue) (n : OperationPlace) → n.place ≡ 0 → IsKnown t n → ⊥
no_place t n e known = nothing_at_zero (process_named t (named t n).process) (subst (λ k. IsSome (option_and_then (λ (p : Process). at_place p.operations k) (process_named t (named t n).process))) e known.1)

-- the process has fewer operations
pub past_process : (t : TraceValue) → IsTrace t → (n : OperationPlace) (p : Process) → n.process < length t.processes → get_or t.processes n.process p ≡ p → 1 ≤ n.place → length p.operations ≤ n.place - 1 → IsKnown t n → ⊥
past_process t ok n p low at some past known = absurd (let none = sym (ap is_some missing) ∙ known.1 in cc)
  where
    place : n.place ≡ n.place - 1 + 1
    place = omega (arith, some)

    same : n ≡ at_number n.process (n.place - 1 + 1)
    same = λ i. record { process = n.process; place = place i }

    missing : operation_at t (named t n) ≡ None
    missing = ap (λ (x : OperationPlace). operation_at t (named t x)) same ∙ numbered_place t ok n.process (n.place - 1) p low at ∙ slice_get_past p.operations (n.place - 1) past
