-- Without times the known pairs are the before pairs.
use Rattle.std.proofs.Common.{◌≡◌, ◌<◌, ℕ, map, true, false, not, refl, ap, sym, ◌∙◌, inl, inr, subst}
use Rattle.std.specs.Prelude.{◌==◌, Option, Some, None, IsSome}
use Rattle.std.specs.List.{Contains, list_any}
use Rattle.std.specs.Option.{option_and_then}
use Rattle.std.proofs.lemmas.Bool.{and_parts, or_cases, or_left}
use Rattle.std.proofs.lemmas.List.Elements.{All-contains}
use Rattle.trace_semantics.specs.declared.operation.OpName.{OpName}
use Rattle.trace_semantics.specs.KnownOrder.{ends_before, HasNoTimes}
use Rattle.trace_semantics.specs.Operation.{span_of}
use Rattle.trace_semantics.specs.Trace.{TraceValue, IsTrace, operation_at, operation_count}
use Rattle.trace_semantics.proofs.ElementLemmas.{from_map}
use Rattle.trace_semantics.proofs.KnownOrderLemmas.{no_span}
use Rattle.var_layout.specs.KnownPairs.{numbers_of, paired_after, span_at_number, in_program_order, is_timed, known_pairs}
use Rattle.var_layout.specs.Numbers.{name_at, number_of}
use Rattle.var_layout.proofs.NumberLemmas.{known_number}
use Rattle.var_layout.proofs.KnownPairs.RisingLemmas.{IsLowerPair, lower_never, lower_one_way, rising_same, known_rise, before_rise}
use Rattle.var_layout.proofs.KnownPairs.SaidLemmas.{listed_said, said_listed, paired_in, in_paired}

module _ (t : TraceValue) (ok : IsTrace t) (untimed : (i : ℕ) → i < operation_count t → span_at_number t i ≡ None) where
  never_timed : (i j : ℕ) → i < operation_count t → is_timed t i j ≡ true → ⊥
  never_timed i j l h =
      let parts = and_parts (ends_before (span_at_number t i) (span_at_number t j)) (not (in_program_order t i j)) h in
      let clash : false ≡ true = sym (ap (λ o. ends_before o (span_at_number t j)) (untimed i l)) ∙ parts.0 in
      absurd (cc)

  to_before : (pair : ℕ × ℕ) → Contains (known_pairs t) pair → Contains (map (numbers_of t) t.before) pair
  to_before pair c =
      let at = listed_said t pair c in
      elim (or_cases (list_any (λ (k : ℕ). k == pair.1) (paired_after t pair.0)) (is_timed t pair.0 pair.1) at.said) [
        | inl paired ↦ paired_in t pair.0 pair.1 paired
        | inr timed ↦ absurd (never_timed pair.0 pair.1 at.first timed)
      ]

  from_before : (pair : ℕ × ℕ) → Contains (map (numbers_of t) t.before) pair → Contains (known_pairs t) pair
  from_before pair c =
      let of = from_map (numbers_of t) t.before pair c in
      let known = All-contains (λ (p : OpName × OpName). IsSome (operation_at t p.0) × IsSome (operation_at t p.1)) t.before of.0 ok.known of.1 in
      let first : number_of t of.0.0 ≡ pair.0 = ap (λ (p : ℕ × ℕ). p.0) of.2 in
      let second : number_of t of.0.1 ≡ pair.1 = ap (λ (p : ℕ × ℕ). p.1) of.2 in
      said_listed t pair.0 pair.1 (subst (λ (k : ℕ). k < operation_count t) first (known_number t of.0.0 known.0).within) (subst (λ (k : ℕ). k < operation_count t) second (known_number t of.0.1 known.1).within)
      (or_left (list_any (λ (k : ℕ). k == pair.1) (paired_after t pair.0)) (is_timed t pair.0 pair.1) (in_paired t pair.0 pair.1 c))

  known_are_before : known_pairs t ≡ map (numbers_of t) t.before
  known_are_before = rising_same IsLowerPair lower_never lower_one_way (known_pairs t) (map (numbers_of t) t.before) (known_rise t) (before_rise t ok) to_before from_before

no_span_at : (t : TraceValue) → HasNoTimes t → (i : ℕ) (o : Option OpName) → name_at t i ≡ o → option_and_then span_of (option_and_then (operation_at t) o) ≡ None
no_span_at t untimed i None e = refl
no_span_at t untimed i (Some n) e = no_span t untimed n

pub without_times : (t : TraceValue) → IsTrace t → HasNoTimes t → known_pairs t ≡ map (numbers_of t) t.before
without_times t ok untimed = known_are_before t ok (λ i l. no_span_at t untimed i (name_at t i) refl)
