-- One of some operations comes first in a schedule, so it waits for none of the others.
use Rattle.std.proofs.Common.{◌≡◌, ◌⊎◌, ◌<◌, ◌+◌, ℕ, zero, suc, List, [], ◌∷◌, ◌++◌, length, refl, ap, ◌∙◌, arith, inl, inr, subst, append_assoc}
use Rattle.std.specs.Prelude.{IsSome, is_some}
use Rattle.std.specs.List.{Contains}
use Rattle.std.proofs.lemmas.List.{length-append}
use Rattle.trace_semantics.specs.declared.operation.OpName.{OpName}
use Rattle.trace_semantics.specs.Interleaving.{StandsBefore}
use Rattle.trace_semantics.specs.Legal.{IsLegal}
use Rattle.trace_semantics.specs.Operation.{location_of}
use Rattle.trace_semantics.specs.Trace.{TraceValue, operation_at}
use Rattle.trace_semantics.proofs.ElementLemmas.{placed, head_in}
use Rattle.restriction.proofs.StandLemmas.{stands_front}
use Rattle.order_reasons.specs.Orders.{HoldsIn}
use Rattle.order_reasons.specs.Reasons.{IsUpTo}
use Rattle.order_reasons.specs.Sources.{ValueSource, LeftBy, InitialAt}
use Rattle.order_reasons.specs.Waiting.{ComesLater, Waits, ForOperation, ForSource, IsWaitingClause}
use Rattle.order_reasons.proofs.OrderReasons.{said, up_before, either}
use Rattle.order_reasons.proofs.SourceReasons.{ReadsFrom, last_before, sources_barred}

module _ (t : TraceValue) (names : List OpName) (legal : IsLegal t names) (clause : List (OpName × OpName)) (members : List OpName) (waits : IsWaitingClause t clause members) where
  waiter_known : (x : OpName) → Waits t clause members x → IsSome (operation_at t x)
  waiter_known x (ForOperation y other known behind says) = known
  waiter_known x (ForSource bars) = ap is_some bars.known

  up_known : (z y : OpName) → IsSome (operation_at t z) → IsUpTo t z y → IsSome (operation_at t y)
  up_known z y known (inl e) = subst (λ k. IsSome (operation_at t k)) e known
  up_known z y known (inr h) = h.second

  abbrev Earlier : OpName → Type 0
  Earlier x = (z : OpName) × Contains members z × StandsBefore names z x

  by_source : (x : OpName) (location : List ℕ) (s : ValueSource) → ComesLater t members s → ReadsFrom t names legal clause x location s → Earlier x
  by_source x location (LeftBy w) (z, c, up) (front, back, d, parts, last) =
      (z, c, up_before t names legal.interleaving clause z w x up (last_before t names legal clause x front back parts location d w last))
  by_source x location (InitialAt a) none reads = absurd (none)

  earlier : (x : OpName) → Waits t clause members x → HoldsIn names clause ⊎ Earlier x
  earlier x (ForOperation y other known (z, c, up) says) =
      elim (either t names legal.interleaving clause x y other known (up_known z y (waiter_known z (waits.each z c)) up)) [
        | inl s ↦ inl (said t names legal.interleaving clause x y says s)
        | inr s ↦ inr (z, c, up_before t names legal.interleaving clause z y x up s)
      ]
  earlier x (ForSource bars) =
      elim (sources_barred t names legal clause x (ComesLater t members) bars) [
        | inl holds ↦ inl holds
        | inr (s, later, reads) ↦ inr (by_source x (location_of bars.op) s later reads)
      ]

  descend : (k : ℕ) (x : OpName) (front back : List OpName) → names ≡ front ++ x ∷ back → length front < k → Contains members x → HoldsIn names clause
  descend zero x front back parts less c = absurd (omega (arith, less))
  descend (suc k) x front back parts less c =
      elim (earlier x (waits.each x c)) [
        | inl holds ↦ holds
        | inr (z, d, s) ↦ (
            let at = placed front z (stands_front names legal.interleaving.once front x back z parts s) in
            let long : length front ≡ length at.front + suc (length at.back) = ap length at.parts ∙ length-append at.front (z ∷ at.back) in
            descend k z at.front (at.back ++ x ∷ back) (parts ∙ ap (λ l. l ++ x ∷ back) at.parts ∙ append_assoc at.front (z ∷ at.back) (x ∷ back)) (omega (arith, less, long)) d)
      ]

  from_one : (x : OpName) → Contains members x → HoldsIn names clause
  from_one x c =
      let at = placed names x (legal.interleaving.each x (waiter_known x (waits.each x c))) in
      descend (suc (length at.front)) x at.front at.back at.parts (omega arith) c

pub first_waits : (t : TraceValue) (names : List OpName) → IsLegal t names → (clause : List (OpName × OpName)) (members : List OpName) → IsWaitingClause t clause members → HoldsIn names clause
first_waits t names legal clause [] waits = absurd (waits.some refl)
first_waits t names legal clause (x ∷ xs) waits = from_one t names legal clause (x ∷ xs) waits x (head_in x xs)
