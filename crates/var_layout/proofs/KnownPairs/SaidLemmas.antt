-- What the known pairs of a trace say, by the names of their operations.
use Rattle.std.proofs.Common.{◌≡◌, ◌⊎◌, ◌<◌, ℕ, map, Bool, true, false, not, ◌&&◌, refl, ap, sym, ◌∙◌, arith, inl, inr, subst}
use Rattle.std.specs.Prelude.{◌≢◌, ◌==◌, Some, IsSome, nat_lt}
use Rattle.std.specs.List.{Contains, filter, list_any}
use Rattle.std.specs.Option.{option_and_then}
use Rattle.std.specs.Str.{bytes_eq}
use Rattle.std.proofs.lemmas.Bool.{and_parts, and_from, or_cases, or_left, or_right, eqb-true, eq-eqb, ltb-true}
use Rattle.std.proofs.lemmas.List.Elements.{All-contains}
use Rattle.std.proofs.lemmas.Option.{same_Some}
use Rattle.trace_semantics.specs.declared.operation.OpName.{OpName}
use Rattle.trace_semantics.specs.KnownOrder.{span_at, ends_before, ended_before, IsKnownBefore}
use Rattle.trace_semantics.specs.Operation.{span_of}
use Rattle.trace_semantics.specs.Trace.{TraceValue, IsTrace, operation_at, operation_count}
use Rattle.trace_semantics.proofs.ElementLemmas.{some_passes, passes_some, from_map, to_map, from_filter, to_filter, from_flat_map, to_flat_map, from_range, to_range}
use Rattle.trace_semantics.proofs.KnownOrderLemmas.{both_timed, span_of_name, not_itself}
use Rattle.trace_semantics.proofs.NameLemmas.{same_bytes}
use Rattle.var_layout.specs.KnownPairs.{numbers_of, paired_after, span_at_number, has_lower_place, in_program_order, is_timed, is_said, said_after, known_pairs}
use Rattle.var_layout.specs.Numbers.{numbers, name_at, number_of}
use Rattle.var_layout.proofs.NumberLemmas.{known_number, name_here}

-- which pairs are listed
pub record IsListed (t : TraceValue) (pair : ℕ × ℕ) : Type 0 where
  pub first : pair.0 < operation_count t
  pub second : pair.1 < operation_count t
  pub said : is_said t pair.0 pair.1 ≡ true

pub listed_said : (t : TraceValue) (pair : ℕ × ℕ) → Contains (known_pairs t) pair → IsListed t pair
listed_said t pair c =
    let at = from_flat_map (said_after t) (numbers t) pair c in
    let to = from_map (λ (j : ℕ). (at.0, j)) (filter (is_said t at.0) (numbers t)) pair at.2 in
    let there = from_filter (is_said t at.0) (numbers t) to.0 to.1 in
    let first = from_range 0 (operation_count t) at.0 at.1 in
    let second = from_range 0 (operation_count t) to.0 there.0 in
    subst (λ (p : ℕ × ℕ). IsListed t p) to.2 (record { first = omega (arith, first.1); second = omega (arith, second.1); said = there.1 })

pub said_listed : (t : TraceValue) (i j : ℕ) → i < operation_count t → j < operation_count t → is_said t i j ≡ true → Contains (known_pairs t) (i, j)
said_listed t i j first second h =
    to_flat_map (said_after t) (numbers t) i (i, j) (to_range 0 (operation_count t) i (omega arith) (omega (arith, first)))
    (to_map (λ (k : ℕ). (i, k)) (filter (is_said t i) (numbers t)) j (to_filter (is_said t i) (numbers t) j h (to_range 0 (operation_count t) j (omega arith) (omega (arith, second)))))

-- the before pairs by number
pub paired_in : (t : TraceValue) (i j : ℕ) → list_any (λ (k : ℕ). k == j) (paired_after t i) ≡ true → Contains (map (numbers_of t) t.before) (i, j)
paired_in t i j h =
    let at = some_passes (λ (k : ℕ). k == j) (paired_after t i) h in
    let of = from_map (λ (pair : ℕ × ℕ). pair.1) (filter (λ (pair : ℕ × ℕ). pair.0 == i) (map (numbers_of t) t.before)) at.0 at.1 in
    let there = from_filter (λ (pair : ℕ × ℕ). pair.0 == i) (map (numbers_of t) t.before) of.0 of.1 in
    let first : of.0.0 ≡ i = eqb-true of.0.0 i there.1 in
    let second : of.0.1 ≡ j = of.2 ∙ eqb-true at.0 j at.2 in
    let same : of.0 ≡ (i, j) = λ n. (first n, second n) in
    subst (λ (p : ℕ × ℕ). Contains (map (numbers_of t) t.before) p) same there.0

pub in_paired : (t : TraceValue) (i j : ℕ) → Contains (map (numbers_of t) t.before) (i, j) → list_any (λ (k : ℕ). k == j) (paired_after t i) ≡ true
in_paired t i j c =
    passes_some (λ (k : ℕ). k == j) (paired_after t i) j
    (to_map (λ (pair : ℕ × ℕ). pair.1) (filter (λ (pair : ℕ × ℕ). pair.0 == i) (map (numbers_of t) t.before)) (i, j)
    (to_filter (λ (pair : ℕ × ℕ). pair.0 == i) (map (numbers_of t) t.before) (i, j) (eq-eqb i i refl) c)) (eq-eqb j j refl)

-- the span of a number is that of its name
span_named : (t : TraceValue) (i : ℕ) (n : OpName) → name_at t i ≡ Some n → span_at_number t i ≡ span_at t n
span_named t i n e = ap (λ o. option_and_then span_of (option_and_then (operation_at t) o)) e

ended_named : (t : TraceValue) (i j : ℕ) (m n : OpName) → name_at t i ≡ Some m → name_at t j ≡ Some n → ends_before (span_at_number t i) (span_at_number t j) ≡ ended_before t m n
ended_named t i j m n first second k = ends_before (span_named t i m first k) (span_named t j n second k)

-- a known pair, by the names of its operations
pub record IsKnownPair (t : TraceValue) (i j : ℕ) : Type 0 where
  pub first : OpName
  pub second : OpName
  pub first_at : name_at t i ≡ Some first
  pub second_at : name_at t j ≡ Some second
  pub known : IsKnownBefore t first second

paired_known : (t : TraceValue) → IsTrace t → (i j : ℕ) → Contains (map (numbers_of t) t.before) (i, j) → IsKnownPair t i j
paired_known t ok i j c =
    let of = from_map (numbers_of t) t.before (i, j) c in
    let known = All-contains (λ (p : OpName × OpName). IsSome (operation_at t p.0) × IsSome (operation_at t p.1)) t.before of.0 ok.known of.1 in
    let first = known_number t of.0.0 known.0 in
    let second = known_number t of.0.1 known.1 in
    let first_is : number_of t of.0.0 ≡ i = ap (λ (p : ℕ × ℕ). p.0) of.2 in
    let second_is : number_of t of.0.1 ≡ j = ap (λ (p : ℕ × ℕ). p.1) of.2 in
    record {
      first = of.0.0;
      second = of.0.1;
      first_at = ap (name_at t) (sym first_is) ∙ first.named;
      second_at = ap (name_at t) (sym second_is) ∙ second.named;
      known = inl of.1;
    }

timed_known : (t : TraceValue) (i j : ℕ) → i < operation_count t → j < operation_count t → is_timed t i j ≡ true → IsKnownPair t i j
timed_known t i j first second h =
    let parts = and_parts (ends_before (span_at_number t i) (span_at_number t j)) (not (in_program_order t i j)) h in
    let m = name_here t i first in
    let n = name_here t j second in
    record { first = m.0; second = n.0; first_at = m.1; second_at = n.1; known = inr (sym (ended_named t i j m.0 n.0 m.1 n.1) ∙ parts.0) }

pub listed_known : (t : TraceValue) → IsTrace t → (i j : ℕ) → Contains (known_pairs t) (i, j) → IsKnownPair t i j
listed_known t ok i j c =
    let at = listed_said t (i, j) c in
    elim (or_cases (list_any (λ (k : ℕ). k == j) (paired_after t i)) (is_timed t i j) at.said) [
      | inl paired ↦ paired_known t ok i j (paired_in t i j paired)
      | inr timed ↦ timed_known t i j at.first at.second timed
    ]

-- what is known is listed, but for what program order says
timed_listed : (t : TraceValue) (i j : ℕ) (m n : OpName) (b : Bool) → i < operation_count t → j < operation_count t → name_at t i ≡ Some m → name_at t j ≡ Some n → ended_before t m n ≡ true → in_program_order t i j ≡ b →
    Contains (known_pairs t) (i, j) ⊎ ((m.process ≡ n.process) × (m.place < n.place))
timed_listed t i j m n true first second first_at second_at ended e =
    let lower : (bytes_eq m.process n.process && nat_lt m.place n.place) ≡ true = (λ k. has_lower_place (sym first_at k) (sym second_at k)) ∙ e in
    let parts = and_parts (bytes_eq m.process n.process) (nat_lt m.place n.place) lower in
    inr (same_bytes m.process n.process parts.0, ltb-true m.place n.place parts.1)
timed_listed t i j m n false first second first_at second_at ended e =
    inl (said_listed t i j first second (or_right (list_any (λ (k : ℕ). k == j) (paired_after t i)) (is_timed t i j)
    (and_from (ends_before (span_at_number t i) (span_at_number t j)) (not (in_program_order t i j)) (ended_named t i j m n first_at second_at ∙ ended) (ap not e))))

pub known_listed : (t : TraceValue) → IsTrace t → (m n : OpName) → IsKnownBefore t m n → Contains (known_pairs t) (number_of t m, number_of t n) ⊎ ((m.process ≡ n.process) × (m.place < n.place))
known_listed t ok m n (inl c) =
    let known = All-contains (λ (p : OpName × OpName). IsSome (operation_at t p.0) × IsSome (operation_at t p.1)) t.before (m, n) ok.known c in
    let i = number_of t m in
    let j = number_of t n in
    inl (said_listed t i j (known_number t m known.0).within (known_number t n known.1).within
    (or_left (list_any (λ (k : ℕ). k == j) (paired_after t i)) (is_timed t i j) (in_paired t i j (to_map (numbers_of t) t.before (m, n) c))))
known_listed t ok m n (inr ended) =
    let known = both_timed t m n ended in
    let first = known_number t m known.0 in
    let second = known_number t n known.1 in
    timed_listed t (number_of t m) (number_of t n) m n (in_program_order t (number_of t m) (number_of t n)) first.within second.within first.named second.named ended refl

-- both are operations of the trace, and these are two
pub both_known : (t : TraceValue) → IsTrace t → (m n : OpName) → IsKnownBefore t m n → IsSome (operation_at t m) × IsSome (operation_at t n)
both_known t ok m n (inl c) = All-contains (λ (p : OpName × OpName). IsSome (operation_at t p.0) × IsSome (operation_at t p.1)) t.before (m, n) ok.known c
both_known t ok m n (inr ended) = both_timed t m n ended

pub known_apart : (t : TraceValue) → IsTrace t → (m n : OpName) → IsKnownBefore t m n → m ≢ n
known_apart t ok m n (inl c) = All-contains (λ (p : OpName × OpName). p.0 ≢ p.1) t.before (m, n) ok.before_apart c
known_apart t ok m n (inr ended) = λ e. (let clash : false ≡ true = sym (not_itself (span_at t n) (span_of_name t ok n)) ∙ ap (λ (k : OpName). ended_before t k n) (sym e) ∙ ended in absurd (cc))

pub pair_apart : (t : TraceValue) → IsTrace t → (pair : ℕ × ℕ) → Contains (known_pairs t) pair → (pair.0 < operation_count t) × (pair.1 < operation_count t) × (pair.0 ≢ pair.1)
pair_apart t ok pair c =
    let at = listed_said t pair c in
    let known = listed_known t ok pair.0 pair.1 c in
    (at.first, at.second, λ e. known_apart t ok known.first known.second known.known (same_Some known.first known.second (sym known.first_at ∙ ap (name_at t) e ∙ known.second_at)))
