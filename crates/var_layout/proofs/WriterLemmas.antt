-- Writers are operations.
use Rattle.std.proofs.Common.{◌≡◌, ◌<◌, ℕ, List, [], true, false, eqb, ap, sym, ◌∙◌, arith}
use Rattle.std.specs.Prelude.{◌≢◌, Option, Some, None, is_some, not}
use Rattle.std.specs.List.{Contains}
use Rattle.std.specs.Option.{option_map_or}
use Rattle.std.proofs.lemmas.Bool.{eq-eqb}
use Rattle.trace_semantics.specs.declared.operation.Op.{Op}
use Rattle.trace_semantics.specs.Operation.{location_of}
use Rattle.trace_semantics.specs.Trace.{TraceValue, operation_count}
use Rattle.trace_semantics.proofs.ElementLemmas.{none_in, from_filter, from_range}
use Rattle.var_layout.specs.Numbers.{numbers, left_at, writers, others, other_writers, op_at}

pub writer_within : (t : TraceValue) (location : List ℕ) (w : ℕ) → Contains (writers t location) w → w < operation_count t
writer_within t location w c =
    let at = from_range 0 (operation_count t) w (from_filter (λ i. is_some (left_at t location i)) (numbers t) w c).0 in
    omega (arith, at.1)

pub from_others : (i : ℕ) (xs : List ℕ) (w : ℕ) → Contains (others i xs) w → Contains xs w × (w ≢ i)
from_others i xs w c =
    let at = from_filter (λ x. not (eqb x i)) xs w c in
    (at.0, λ e. (let clash : false ≡ true = ap not (sym (eq-eqb w i e)) ∙ at.1 in absurd (cc)))

pub other_writer : (t : TraceValue) (i w : ℕ) → Contains (other_writers t i) w → (w < operation_count t) × (w ≢ i)
other_writer t i w c = at (op_at t i) c
  where
    at : (o : Option Op) → Contains (option_map_or (λ (op : Op). others i (writers t (location_of op))) o []) w → (w < operation_count t) × (w ≢ i)
    at None d = absurd (none_in w d)
    at (Some op) d = let found = from_others i (writers t (location_of op)) w d in (writer_within t (location_of op) w found.0, found.1)
