use Rattle.std.proofs.Common.{◌≡◌, ◌≢◌, ℕ, List, ◌∷◌, ◌++◌, Bool, true, refl, ap, sym, ◌∙◌, inl, inr, subst, append_assoc}
use Rattle.std.specs.Prelude.{Option, Some, None, IsSome, is_some}
use Rattle.std.specs.List.{Contains}
use Rattle.std.proofs.lemmas.List.Elements.{Contains-append_cases}
use Rattle.std.proofs.lemmas.Option.{same_Some}
use Rattle.trace_semantics.specs.declared.operation.OpName.{OpName}
use Rattle.trace_semantics.specs.Interleaving.{StandsBefore}
use Rattle.trace_semantics.specs.Legal.{IsLegal}
use Rattle.trace_semantics.specs.Trace.{TraceValue, IsTrace, operation_at}
use Rattle.trace_semantics.specs.ValueAfter.{value_left_at, value_after}
use Rattle.trace_semantics.proofs.ElementLemmas.{placed, cases_in, in_middle}
use Rattle.trace_semantics.proofs.OrderLemmas.{stands_behind, stands_ahead}
use Rattle.restriction.specs.LastWriter.{IsLast}
use Rattle.restriction.proofs.StandLemmas.{stands_back, stands_either, never_both}
use Rattle.restriction.proofs.WriterLemmas.{writer_known, last_of, silent_value, last_leaves}
use Rattle.forced_order.specs.Order.{Obeys}
use Rattle.part_law.specs.Derived.{IsOnlySource, IsDerived, Source, After, Before}
use Rattle.part_law.specs.Part.{writes_at}
use Rattle.part_law.proofs.PartLemmas.{source_may_be, not_silent}
use Rattle.part_law.proofs.laws.derived_stands.Goals as goal

-- What follows from an order and the only possible source of a reading operation stands.

module _ (t : TraceValue) (ok : IsTrace t) (ordered : OpName → OpName → Bool) (names : List OpName) (legal : IsLegal t names) (obeyed : Obeys t names ordered) where
  known_writes : (location : List ℕ) (x : OpName) (o : Option ℕ) → value_left_at t location x ≡ o → is_some o ≡ true → IsSome (operation_at t x)
  known_writes location x None e h = absurd (cc)
  known_writes location x (Some d) e h = writer_known t location x d e

  -- where the reading operation stands, with its source as the last writer before it
  record Read (location : List ℕ) (w n : OpName) : Type 0 where
    front : List OpName
    back : List OpName
    value : ℕ
    parts : names ≡ front ++ n ∷ back
    last : IsLast t location front w value

  read_at : (location : List ℕ) (w n : OpName) → IsOnlySource t ordered location w n → Read location w n
  read_at location w n h =
      let at = placed names n (legal.interleaving.each n (ap is_some h.known)) in
      let held : value_after t location at.front ≡ Some h.value = ap (λ l. value_after t l at.front) (sym h.location_is) ∙ (legal.reads at.front n at.back h.op at.parts h.known).value h.value h.reads in
      elim (last_of t location at.front) [
        | inl silent ↦ absurd (h.not_initial (sym (silent_value t location at.front silent) ∙ held))
        | inr (x, v, last) ↦ (
            let same : v ≡ h.value = same_Some v h.value (sym (last_leaves t location at.front x v last) ∙ held) in
            let here : IsLast t location at.front x h.value = subst (λ u. IsLast t location at.front x u) same last in
            let it : x ≡ w = h.only x (source_may_be t ok ordered (λ m. true) names legal obeyed at.front n at.back location h.value x at.parts here) in
            record { front = at.front; back = at.back; value = h.value; parts = at.parts; last = subst (λ u. IsLast t location at.front u h.value) it here })
      ]

  source_stands : (location : List ℕ) (w n : OpName) → Read location w n → StandsBefore names w n
  source_stands location w n r = stands_behind names r.front n r.back w r.parts (subst (λ l. Contains l w) (sym r.last.parts) (in_middle r.last.front w r.last.back))

  source_known : (location : List ℕ) (w n : OpName) → Read location w n → IsSome (operation_at t w)
  source_known location w n r = writer_known t location w r.value r.last.leaves

  whole : (location : List ℕ) (w n : OpName) (r : Read location w n) → names ≡ r.last.front ++ w ∷ (r.last.back ++ n ∷ r.back)
  whole location w n r = r.parts ∙ ap (λ l. l ++ n ∷ r.back) r.last.parts ∙ append_assoc r.last.front (w ∷ r.last.back) (n ∷ r.back)

  -- another writer that stands after the source stands after what reads it
  after_stands : (location : List ℕ) (w n x : OpName) → Read location w n → writes_at t location x ≡ true → x ≢ n → StandsBefore names w x → StandsBefore names n x
  after_stands location w n x r writes other s =
      elim (Contains-append_cases r.last.back (n ∷ r.back) x (stands_back names legal.interleaving.once r.last.front w (r.last.back ++ n ∷ r.back) x (whole location w n r) s)) [
        | inl between ↦ absurd (not_silent t ok ordered (λ m. true) names legal obeyed location x writes (r.last.silent x between))
        | inr rest ↦ elim (cases_in n r.back x rest) [
          | inl same ↦ absurd (other (sym same))
          | inr behind ↦ stands_ahead names r.front n r.back x r.parts behind
        ]
      ]

  before_stands : (location : List ℕ) (w n x : OpName) → Read location w n → writes_at t location x ≡ true → x ≢ w → x ≢ n → StandsBefore names x n → StandsBefore names x w
  before_stands location w n x r writes other apart s =
      elim (stands_either names x w (legal.interleaving.each x (known_writes location x (value_left_at t location x) refl writes)) (legal.interleaving.each w (writer_known t location w r.value r.last.leaves))) [
        | inl same ↦ absurd (other same)
        | inr (inl first) ↦ first
        | inr (inr second) ↦ absurd (never_both names legal.interleaving.once x n s (after_stands location w n x r writes apart second))
      ]

  derived : (m n : OpName) → IsDerived t ordered m n → StandsBefore names m n
  derived m n (Source location only) = source_stands location m n (read_at location m n only)
  derived m n (After location w only writes other h) = let at = read_at location w m only in after_stands location w m n at writes other (obeyed w n (source_known location w m at) (known_writes location n (value_left_at t location n) refl writes) h)
  derived m n (Before location r only writes other h) =
      let s = obeyed m r (known_writes location m (value_left_at t location m) refl writes) (ap is_some only.known) h in
      before_stands location n r m (read_at location n r only) writes other (λ same. legal.interleaving.once m (subst (λ x. StandsBefore names m x) (sym same) s)) s

pub returns : goal.returns
returns c t ordered names m n ok legal obeyed = derived t ok ordered names legal obeyed m n
