-- The order of before pairs, by the names that they are of.
use Rattle.std.proofs.Common.{◌≡◌, ◌⊎◌, ◌<◌, ℕ, ap, sym, ◌∙◌, inl, inr}
use Rattle.std.specs.Prelude.{IsSome}
use Rattle.std.specs.Cmp.{nat_cmp_is}
use Rattle.std.specs.Cmp.Lexicographic.{slice_cmp}
use Rattle.std.specs.declared.cmp.Ordering.{Ordering}
use Rattle.std.specs.declared.cmp.Ordering.TheVariants.{Less, Equal, Greater}
use Rattle.std.specs.Ordering.{nat_cmp, ordering_then}
use Rattle.std.proofs.lemmas.Bool.{cases_order}
use Rattle.trace_semantics.specs.declared.operation.OpName.{OpName}
use Rattle.trace_semantics.specs.PairOrder.{order_of, pair_order}
use Rattle.trace_semantics.specs.Trace.{TraceValue, operation_at}
use Rattle.trace_semantics.proofs.ProcessOrderLemmas.{same_process}
use Rattle.restriction.proofs.OrderedPairLemmas.{IsEarlierName, IsEarlierPair}

-- two numbers decide, or they are equal and the rest decides
then_cases : (a b : ℕ) (o : Ordering) → ordering_then (nat_cmp a b) o ≡ Less → (a < b) ⊎ ((a ≡ b) × (o ≡ Less))
then_cases a b o h =
    elim (cases_order a b) [
      | inl e ↦ (let rest : ordering_then (nat_cmp a b) o ≡ o = ap (λ r. ordering_then r o) (sym (nat_cmp_is a b Equal e)) in inr (e, sym rest ∙ h))
      | inr (inl l) ↦ inl l
      | inr (inr g) ↦ absurd (let clash : Greater ≡ Less = ap (λ r. ordering_then r o) (nat_cmp_is a b Greater g) ∙ h in cc)
    ]

-- one name of each pair
name_cases : (t : TraceValue) (m n : OpName) (o : Ordering) → IsSome (operation_at t m) → IsSome (operation_at t n) →
    ordering_then (nat_cmp (order_of t.processes m.process) (order_of t.processes n.process)) (ordering_then (nat_cmp m.place n.place) o) ≡ Less →
    IsEarlierName t.processes m n ⊎ ((m ≡ n) × (o ≡ Less))
name_cases t m n o h k less =
    elim (then_cases (order_of t.processes m.process) (order_of t.processes n.process) (ordering_then (nat_cmp m.place n.place) o) less) [
      | inl l ↦ inl (inl l)
      | inr (e, rest) ↦ (let process = same_process t m n h k e in elim (then_cases m.place n.place o rest) [
        | inl l ↦ inl (inr (process, l))
        | inr (f, last) ↦ inr (λ i. record { process = process i; place = f i }, last)
      ])
    ]

pub pair_earlier : (t : TraceValue) (x y : OpName × OpName) → IsSome (operation_at t x.0) × IsSome (operation_at t x.1) → IsSome (operation_at t y.0) × IsSome (operation_at t y.1) →
    slice_cmp nat_cmp (pair_order t.processes x) (pair_order t.processes y) ≡ Less → IsEarlierPair t.processes x y
pair_earlier t x y first second less =
    let last : Ordering = ordering_then (nat_cmp (order_of t.processes x.1.process) (order_of t.processes y.1.process)) (ordering_then (nat_cmp x.1.place y.1.place) Equal) in
    elim (name_cases t x.0 y.0 last first.0 second.0 less) [
      | inl l ↦ inl l
      | inr (same, rest) ↦ elim (name_cases t x.1 y.1 Equal first.1 second.1 rest) [
        | inl l ↦ inr (same, l)
        | inr (e, clash) ↦ absurd (cc)
      ]
    ]
