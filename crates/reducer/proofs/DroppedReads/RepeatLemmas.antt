-- What is known of a dropped read, and that an operation with times is kept.
use Rattle.std.proofs.Common.{◌≡◌, ℕ, List, Bool, true, false, not, ◌||◌, eqb, refl, ap, sym, ◌∙◌}
use Rattle.std.specs.Prelude.{Option, Some, None, IsSome, is_some}
use Rattle.std.specs.Option.{option_and_then}
use Rattle.std.specs.Str.{bytes_eq}
use Rattle.std.proofs.lemmas.Bool.{and_parts, eqb-true}
use Rattle.trace_semantics.specs.declared.operation.Op.{Op}
use Rattle.trace_semantics.specs.declared.operation.Op.TheVariants.{Read, Write, Update}
use Rattle.trace_semantics.specs.declared.operation.OpName.{OpName}
use Rattle.trace_semantics.specs.declared.operation.Origin.TheVariants.{Any, Initial, Operation}
use Rattle.trace_semantics.specs.KnownOrder.{span_at}
use Rattle.trace_semantics.specs.Operation.{location_of, span_of}
use Rattle.trace_semantics.specs.Trace.{TraceValue, operation_at}
use Rattle.trace_semantics.proofs.NameLemmas.{same_bytes}
use Rattle.reducer.specs.Reduction.{value_behind, repeats, previous, is_in_pair, is_an_origin, is_dropped, is_kept}
use Rattle.reducer.proofs.KeptTrace.KeptLemmas.{known_kept}

-- the second is a plain read of what the first leaves or reads there, without times
pub record Repeated (first second : Option Op) : Type 0 where
  pub earlier : Op
  pub location : List ℕ
  pub value : ℕ
  pub first_is : first ≡ Some earlier
  pub second_is : second ≡ Some (Read location value Any None)
  pub same_location : location_of earlier ≡ location
  pub same_value : value_behind earlier ≡ value

pub repeated : (first second : Option Op) → repeats first second ≡ true → Repeated first second
repeated None second h = absurd (cc)
repeated (Some op) None h = absurd (cc)
repeated (Some op) (Some (Read location value Any None)) h =
    let parts = and_parts (bytes_eq (location_of op) location) (eqb (value_behind op) value) h in
    record {
      earlier = op;
      location = location;
      value = value;
      first_is = refl;
      second_is = refl;
      same_location = same_bytes (location_of op) location parts.0;
      same_value = eqb-true (value_behind op) value parts.1;
    }
repeated (Some op) (Some (Read location value Any (Some span))) h = absurd (cc)
repeated (Some op) (Some (Read location value Initial span)) h = absurd (cc)
repeated (Some op) (Some (Read location value (Operation n) span)) h = absurd (cc)
repeated (Some op) (Some (Write location value span)) h = absurd (cc)
repeated (Some op) (Some (Update location read left origin span)) h = absurd (cc)

pub dropped_repeats : (t : TraceValue) (n : OpName) → is_dropped t n ≡ true → Repeated (operation_at t (previous n)) (operation_at t n)
dropped_repeats t n h = repeated (operation_at t (previous n)) (operation_at t n) (and_parts (repeats (operation_at t (previous n)) (operation_at t n)) (not (is_in_pair t n || is_an_origin t n)) h).0

not_dropped : (t : TraceValue) (n : OpName) (b : Bool) → IsSome (span_at t n) → is_dropped t n ≡ b → not b ≡ true
not_dropped t n true timed h =
    absurd (
    let none : span_at t n ≡ None = ap (option_and_then span_of) (dropped_repeats t n h).second_is in
    let clash : false ≡ true = sym (ap is_some none) ∙ timed in cc)
not_dropped t n false timed h = refl

-- an operation with times is kept
pub kept_as_timed : (t : TraceValue) (n : OpName) → IsSome (operation_at t n) → IsSome (span_at t n) → is_kept t n ≡ true
kept_as_timed t n known timed = known_kept t n known ∙ not_dropped t n (is_dropped t n) timed refl
