-- The derivations that are answers.
use Rattle.std.proofs.Common.{◌≡◌, ℕ, suc, ◌<◌, ℤ, List, [], ◌∷◌, ◌++◌, length, refl, sym, ◌∙◌, ap, subst, arith}
use Rattle.std.specs.Prelude.{Option, Some, None, option_to_list}
use Rattle.std.specs.List.{AllZip, cons_option}
use Rattle.std.proofs.lemmas.List.Elements.{filter_map-append}
use Rattle.lrat_check.specs.declared.derivation.Step.{Step}
use Rattle.result_ledger.specs.declared.slot.Slot.{Slot}
use Rattle.result_ledger.specs.declared.verdict.Verdict.TheVariants.{Inconsistent}
use Rattle.result_ledger.specs.Ledger.{cubes_in, derivation_of, derivations_in, said_derivation}
use Rattle.result_ledger.specs.Verdict.{IsProofIn, HasProofAt, IsVerdict}

one_item : (o : Option (List Step)) → cons_option o [] ≡ option_to_list o
one_item (Some steps) = refl
one_item None = refl

-- the answer of one more slot
pub answer_on : (done : List Slot) (slot : Slot) (derivations : List (List Step)) → derivations ≡ derivations_in done → derivations ++ option_to_list (derivation_of slot) ≡ derivations_in (done ++ slot ∷ [])
answer_on done slot derivations so =
    ap (λ (ds : List (List Step)). ds ++ option_to_list (derivation_of slot)) so
    ∙ ap (λ (ds : List (List Step)). derivations_in done ++ ds) (sym (one_item (derivation_of slot)))
    ∙ sym (filter_map-append derivation_of done (slot ∷ []))

-- a proof for each leaf, in order
pub proofs_of_leaves : (clauses : List (List ℤ)) (slots : List Slot) → ((leaf : ℕ) → leaf < length slots → HasProofAt clauses slots leaf) → AllZip (IsProofIn clauses) (cubes_in slots) (derivations_in slots)
proofs_of_leaves clauses [] all = tt
proofs_of_leaves clauses (slot ∷ slots) all =
    let first = all 0 (omega arith) in
    let there : Some slot ≡ Some first.slot = first.there in
    let same : slot ≡ first.slot = cc there in
    let said : derivation_of slot ≡ Some first.holds.steps = ap derivation_of same ∙ ap said_derivation first.holds.answer in
    let here : IsProofIn clauses slot.cube first.holds.steps = subst (λ (s : Slot). IsProofIn clauses s.cube first.holds.steps) (sym same) first.holds.confirmed in
    let rest : AllZip (IsProofIn clauses) (cubes_in slots) (derivations_in slots) = proofs_of_leaves clauses slots (λ leaf below.
    let next = all (suc leaf) (omega (arith, below)) in
    record { slot = next.slot; there = next.there; holds = next.holds }) in
    subst (λ o. AllZip (IsProofIn clauses) (slot.cube ∷ cubes_in slots) (cons_option o (derivations_in slots))) (sym said) (here, rest)

pub proofs_by_leaf : (clauses : List (List ℤ)) (slots : List Slot) (count : ℕ) → IsVerdict clauses slots (Inconsistent count) → AllZip (IsProofIn clauses) (cubes_in slots) (derivations_in slots)
proofs_by_leaf clauses slots count h = proofs_of_leaves clauses slots h.1
