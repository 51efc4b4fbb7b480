-- What one slot's answer is worth.
use Rattle.std.proofs.Common.{◌≡◌, ℕ, ◌<◌, ◌+◌, ℤ, Bool, List, length, get_or, Some, refl, sym, ◌∙◌, ap, subst, inl, inr}
use Rattle.std.specs.Prelude.{IsTrue, ◌↔◌}
use Rattle.std.specs.List.{slice_get}
use Rattle.std.proofs.lemmas.Option.{slice_get_read}
use Rattle.cube_jobs.specs.declared.outcome.Outcome.TheVariants.{Model, Refuted}
use Rattle.dimacs.specs.Assignment.{value_of}
use Rattle.lrat_check.specs.Checked.{IsAccepted}
use Rattle.lrat_check.specs.declared.derivation.Step.{Step}
use Rattle.result_ledger.specs.declared.slot.Slot.{Slot}
use Rattle.cube_jobs.specs.Models.{IsModelIn}
use Rattle.result_ledger.specs.Verdict.{IsProofIn, IsModelAnswer, IsProofAnswer, HasProofAt, HaveNoModelBefore}
use Rattle.result_ledger.proofs.WithoutLemmas.{below_next}

-- an answer that is no model in the cube
pub no_model_answer : (clauses : List (List ℤ)) (slot : Slot) (found : List Bool) → slot.outcome ≡ Some (Model found) → (IsModelIn clauses slot.cube (value_of found) → ⊥) → (truth : List Bool) → IsModelAnswer clauses slot truth → ⊥
no_model_answer clauses slot found said wrong truth h =
    let both : Some (Model found) ≡ Some (Model truth) = sym said ∙ h.answer in
    let same : found ≡ truth = cc both in
    wrong (subst (λ (values : List Bool). IsModelIn clauses slot.cube (value_of values)) (sym same) h.confirmed)

-- an answer that is a derivation is right if and only if that is accepted
pub proof_answer : (clauses : List (List ℤ)) (slot : Slot) (steps : List Step) (proved : Bool) → slot.outcome ≡ Some (Refuted steps) → (IsTrue proved ↔ IsProofIn clauses slot.cube steps) → IsTrue proved ↔ IsProofAnswer clauses slot
proof_answer clauses slot steps proved said right = (
  λ h. record { steps = steps; answer = said; confirmed = right.0 h },
  λ h.
      let both : Some (Refuted steps) ≡ Some (Refuted h.steps) = sym said ∙ h.answer in
      let same : steps ≡ h.steps = cc both in
      right.1 (subst (λ (values : List Step). IsProofIn clauses slot.cube values) (sym same) h.confirmed),
)

-- the answer of one slot is a derivation that is accepted for another, whose answer it is too
pub served_answer : (clauses : List (List ℤ)) (first second : Slot) (steps others : List Step) → first.outcome ≡ Some (Refuted steps) → second.outcome ≡ Some (Refuted others) → steps ≡ others →
    (IsAccepted clauses first.cube steps → IsAccepted clauses second.cube steps) → IsProofAnswer clauses first → IsProofAnswer clauses second
served_answer clauses first second steps others said also same on h =
    let both : Some (Refuted steps) ≡ Some (Refuted h.steps) = sym said ∙ h.answer in
    let own : steps ≡ h.steps = cc both in
    let proof : IsProofIn clauses first.cube steps = subst (λ (values : List Step). IsProofIn clauses first.cube values) (sym own) h.confirmed in
    record { steps = steps; answer = also ∙ ap (λ (values : List Step). Some (Refuted values)) (sym same); confirmed = record { written = proof.written; accepted = on proof.accepted } }

-- the element that was read
pub read : (slots : List Slot) (leaf : ℕ) (slot : Slot) → leaf < length slots → slot ≡ get_or slots leaf slot → slice_get slots leaf ≡ Some slot
read slots leaf slot below is = slice_get_read slots (length slots) leaf slot refl below is

-- one more leaf has no model for its answer
pub none_on : (clauses : List (List ℤ)) (slots : List Slot) (leaf : ℕ) (slot : Slot) → slice_get slots leaf ≡ Some slot → ((truth : List Bool) → IsModelAnswer clauses slot truth → ⊥) → HaveNoModelBefore clauses slots leaf → HaveNoModelBefore clauses slots (leaf + 1)
none_on clauses slots leaf slot there none before other truth below h = elim (below_next other leaf below) [
  | inl less ↦ before other truth less h
  | inr same ↦
      let at : slice_get slots leaf ≡ Some h.slot = subst (λ (n : ℕ). slice_get slots n ≡ Some h.slot) same h.there in
      let both : Some slot ≡ Some h.slot = sym there ∙ at in
      let slots_same : slot ≡ h.slot = cc both in
      none truth (subst (λ (x : Slot). IsModelAnswer clauses x truth) (sym slots_same) h.holds)
]

-- a leaf whose answer is no proof
pub not_proved : (clauses : List (List ℤ)) (slots : List Slot) (leaf : ℕ) (slot : Slot) → slice_get slots leaf ≡ Some slot → (IsProofAnswer clauses slot → ⊥) → HasProofAt clauses slots leaf → ⊥
not_proved clauses slots leaf slot there wrong h =
    let both : Some slot ≡ Some h.slot = sym there ∙ h.there in
    let slots_same : slot ≡ h.slot = cc both in
    wrong (subst (λ (x : Slot). IsProofAnswer clauses x) (sym slots_same) h.holds)
