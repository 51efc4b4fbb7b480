-- Derivations in pieces.
use Rattle.std.proofs.Common.{◌≡◌, ℕ, ◌+◌, ◌<◌, true, false, List, [], ◌∷◌, ◌++◌, length, take, drop, get_or, add-one, refl, sym, ap, ◌∙◌, subst, inl, inr}
use Rattle.std.proofs.Math.Seq.{take-suc}
use Rattle.std.specs.Prelude.{ℤ, Option}
use Rattle.lrat_check.specs.Active.{after, at_start}
use Rattle.lrat_check.specs.Checked.{Accepts, IsRight, ends}
use Rattle.lrat_check.specs.Pieces.{after_all, IsAcceptedFrom}
use Rattle.lrat_check.specs.declared.derivation.Step.{Step}
use Rattle.lrat_check.proofs.Justifying.CheckLemmas.{next_step, same_active}

-- after one more step
after_more : (active : ℕ → Option (List ℤ)) (steps : List Step) (step : Step) → after_all active (steps ++ step ∷ []) ≡ after (after_all active steps) step
after_more active [] step = refl
after_more active (first ∷ steps) step = after_more (after active first) steps step

taken_on : (steps : List Step) (i : ℕ) (step : Step) → i < length steps → step ≡ get_or steps i step → take (i + 1) steps ≡ take i steps ++ step ∷ []
taken_on steps i step below is = ap (λ n. take n steps) (add-one i) ∙ take-suc steps i step below ∙ ap (λ s. take i steps ++ s ∷ []) (sym is)

-- the clauses after the first steps, with one more
pub passed_on : (start old new : ℕ → Option (List ℤ)) (steps : List Step) (i : ℕ) (step : Step) → i < length steps → step ≡ get_or steps i step →
    ((id : ℕ) → old id ≡ after_all start (take i steps) id) → ((id : ℕ) → new id ≡ after old step id) → (id : ℕ) → new id ≡ after_all start (take (i + 1) steps) id
passed_on start old new steps i step below is before now id =
    now id
    ∙ ap (λ (f : ℕ → Option (List ℤ)). after f step id) (same_active old (after_all start (take i steps)) before)
    ∙ ap (λ (f : ℕ → Option (List ℤ)). f id) (sym (after_more start (take i steps) step) ∙ ap (λ (l : List Step). after_all start l) (sym (taken_on steps i step below is)))

-- what is accepted behind a step that is right is accepted from that step on
pub accepted_on : (clauses : List (List ℤ)) (cube : List ℤ) (active : ℕ → Option (List ℤ)) (steps : List Step) (i : ℕ) (step : Step) → i < length steps → step ≡ get_or steps i step →
    ((id : ℕ) → active id ≡ after_all (at_start clauses cube) (take i steps) id) → IsRight active step → IsAcceptedFrom clauses cube steps (i + 1) → IsAcceptedFrom clauses cube steps i
accepted_on clauses cube active steps i step below is same right rest =
    let start = at_start clauses cube in
    let before = after_all start (take i steps) in
    let here : IsRight before step = subst (λ (f : ℕ → Option (List ℤ)). IsRight f step) (same_active active before same) right in
    let then : Accepts (after before step) (drop (i + 1) steps) =
    subst (λ (f : ℕ → Option (List ℤ)). Accepts f (drop (i + 1) steps)) (ap (λ (l : List Step). after_all start l) (taken_on steps i step below is) ∙ after_more start (take i steps) step) rest in
    subst (λ (l : List Step). Accepts before l) (sym (next_step steps i step below is)) (here, inr then)

-- a step that is right and adds the empty clause is accepted with all behind it
pub accepted_here : (clauses : List (List ℤ)) (cube : List ℤ) (active : ℕ → Option (List ℤ)) (steps : List Step) (i : ℕ) (step : Step) → i < length steps → step ≡ get_or steps i step →
    ((id : ℕ) → active id ≡ after_all (at_start clauses cube) (take i steps) id) → IsRight active step → ends step ≡ true → IsAcceptedFrom clauses cube steps i
accepted_here clauses cube active steps i step below is same right end =
    let before = after_all (at_start clauses cube) (take i steps) in
    let here : IsRight before step = subst (λ (f : ℕ → Option (List ℤ)). IsRight f step) (same_active active before same) right in
    subst (λ (l : List Step). Accepts before l) (sym (next_step steps i step below is)) (here, inl end)
