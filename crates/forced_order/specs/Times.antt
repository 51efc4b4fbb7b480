-- Steps of the forced order that follow from times.
use Rattle.std.specs.Prelude.{◌≡◌, ◌⊎◌, ◌≤◌, ◌<◌, ◌-◌, true, false, slice_index_or, ℕ, Option, Some, None, List, ◌∷◌, length}
use Rattle.std.specs.List.{slice_get}
use Rattle.std.specs.Option.{option_and_then}
use Rattle.trace_semantics.specs.declared.operation.Op.{Op}
use Rattle.trace_semantics.specs.declared.operation.Span.{Span}
use Rattle.trace_semantics.specs.declared.trace.Process.{Process}
use Rattle.trace_semantics.specs.KnownOrder.{ends_before}
use Rattle.trace_semantics.specs.Operation.{span_of}
use Rattle.trace_semantics.specs.Trace.{at_place}
use Rattle.forced_order.specs.declared.numbered.OperationNumber.{OperationNumber}

-- when the operation at this place was under way, if the trace says so
abbrev pub span_in : List Op → ℕ → Option Span
span_in ops place = option_and_then span_of (at_place ops place)

-- the same of an operation by numbers
abbrev pub span_by_number : List Process → OperationNumber → Option Span
span_by_number processes n = option_and_then (λ (p : Process). span_in p.operations n.place) (slice_get processes n.process)

-- when it had ended; without times the latest time that can be written, after which nothing starts
abbrev pub end_of : Option Span → ℕ
end_of None = 18446744073709551615
end_of (Some span) = span.end

-- the lower of two numbers
pub record IsLower (a b lower : ℕ) : Type 0 where
  pub first : lower ≤ a
  pub second : lower ≤ b
  pub one : (lower ≡ a) ⊎ (lower ≡ b)

-- of the last operations the least end: of the last one, of the last two, and so on
pub record AreLeastEnds (ops : List Op) (ends : List ℕ) : Type 0 where
  pub long : length ends ≡ length ops
  pub each : (i : ℕ) → i < length ends → IsLower (end_of (span_in ops (length ops - i))) (slice_index_or (18446744073709551615 ∷ ends) i 0) (slice_index_or ends i 0)

-- those of each process
pub record AreEnds (processes : List Process) (ends : List (List ℕ)) : Type 0 where
  pub long : length ends ≡ length processes
  pub each : (j : ℕ) (p : Process) (own : List ℕ) → slice_get processes j ≡ Some p → slice_get ends j ≡ Some own → AreLeastEnds p.operations own

-- of these operations the one at this place is the last that had ended before the span; 0 if none had
pub record IsLastEnded (ops : List Op) (span : Span) (place : ℕ) : Type 0 where
  pub ended : 1 ≤ place → ends_before (span_in ops place) (Some span) ≡ true
  pub last : (k : ℕ) → place < k → ends_before (span_in ops k) (Some span) ≡ false
