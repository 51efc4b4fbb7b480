-- Steps, one after the other.
use Rattle.std.proofs.Common.{◌≡◌, ℕ, ◌+◌, Bool, true, false, eqb, List, ◌∷◌, ◌<◌, length, drop, drop-cons, get_or, add-one, sym, ◌∙◌, subst, inl, inr}
use Rattle.std.specs.Prelude.{ℤ, Option, None}
use Rattle.std.specs.Prelude.{Result, Ok, Err, IfErr}
use Rattle.std.specs.Result.{IsErrAnd}
use Rattle.lrat_check.specs.declared.checker.Accepted.{Accepted}
use Rattle.lrat_check.specs.Active.{after, at_start, with_clause}
use Rattle.lrat_check.specs.Checked.{IsRight, IsWrong, ends, Accepts, Refuses, IsRefused}
use Rattle.lrat_check.specs.Justified.{IsJustified}
use Rattle.lrat_check.specs.declared.derivation.Step.{Step}
use Rattle.lrat_check.specs.declared.derivation.Step.TheVariants.{Addition}
use Rattle.lrat_check.specs.declared.refusal.StepFault.{StepFault}
use Rattle.text_lines.specs.declared.fault.PlacedFault.{PlacedFault}
use Rattle.text_lines.specs.declared.fault.PlacedFault.TheVariants.{OutOfMemory, At}
use Rattle.text_lines.specs.Fault.{IsRefusal, IsRefusalAt}

-- what happens to the steps that are left happens to all
pub record IsWalked (start : ℕ → Option (List ℤ)) (steps : List Step) (active : ℕ → Option (List ℤ)) (next : ℕ) (left : List Step) : Type 0 where
  pub accepts : Accepts active left → Accepts start steps
  pub refuses : (fault : StepFault) (place : ℕ) → Refuses active next left fault place → Refuses start 1 steps fault place

-- two sets with the same clauses are the same
pub same_active : (f g : ℕ → Option (List ℤ)) → ((id : ℕ) → f id ≡ g id) → f ≡ g
same_active f g h = λ i id. h id i

pub walk_start : (start active : ℕ → Option (List ℤ)) (steps : List Step) → ((id : ℕ) → active id ≡ start id) → IsWalked start steps active 1 steps
walk_start start active steps h =
    subst (λ (f : ℕ → Option (List ℤ)). IsWalked start steps f 1 steps) (sym (same_active active start h)) (record { accepts = λ k. k; refuses = λ fault place k. k })

pub walk_on : (start : ℕ → Option (List ℤ)) (steps : List Step) (active new : ℕ → Option (List ℤ)) (next : ℕ) (left : List Step) (step : Step) (rest : List Step) →
    IsWalked start steps active next left → left ≡ step ∷ rest → IsRight active step → ends step ≡ false → ((id : ℕ) → new id ≡ after active step id) → IsWalked start steps new (next + 1) rest
walk_on start steps active new next left step rest h e right on same =
    subst (λ (f : ℕ → Option (List ℤ)). IsWalked start steps f (next + 1) rest) (sym (same_active new (after active step) same)) (record {
      accepts = λ k. h.accepts (subst (λ (l : List Step). Accepts active l) (sym e) (right, inr k));
      refuses = λ fault place k. h.refuses fault place (subst (λ (l : List Step). Refuses active next l fault place) (sym e) (inr (right, on, k)));
    })

pub walk_ends : (start : ℕ → Option (List ℤ)) (steps : List Step) (active : ℕ → Option (List ℤ)) (next : ℕ) (left : List Step) (step : Step) (rest : List Step) →
    IsWalked start steps active next left → left ≡ step ∷ rest → IsRight active step → ends step ≡ true → Accepts start steps
walk_ends start steps active next left step rest h e right end =
    h.accepts (subst (λ (l : List Step). Accepts active l) (sym e) (right, inl end))

pub walk_fails : (clauses : List (List ℤ)) (cube : List ℤ) (steps : List Step) (active : ℕ → Option (List ℤ)) (next : ℕ) (left : List Step) (step : Step) (rest : List Step) (refusal : PlacedFault StepFault) →
    IsWalked (at_start clauses cube) steps active next left → left ≡ step ∷ rest → IsRefusalAt (λ fault. IsWrong active step fault) next refusal → IsRefusal (IsRefused clauses cube steps) refusal
walk_fails clauses cube steps active next left step rest OutOfMemory h e wrong = tt
walk_fails clauses cube steps active next left step rest (At fault place) h e wrong =
    h.refuses fault place (subst (λ (l : List Step). Refuses active next l fault place) (sym e) (inl wrong))

-- a clause was added
pub step_added : (old new : ℕ → Option (List ℤ)) (step : Step) (id : ℕ) (literals hints : List ℤ) (ended : Bool) → step ≡ Addition id literals hints → old id ≡ None → IsJustified old literals hints →
    ended ≡ eqb (length literals) 0 → ((other : ℕ) → new other ≡ with_clause id literals old other) → IsRight old step × (ended ≡ ends step) × ((other : ℕ) → new other ≡ after old step other)
step_added old new step id literals hints ended e free justified last adds =
    subst (λ (s : Step). IsRight old s × (ended ≡ ends s) × ((other : ℕ) → new other ≡ after old s other)) (sym e) ((free, justified), last, adds)

-- the next step
pub next_step : (steps : List Step) (i : ℕ) (step : Step) → i < length steps → step ≡ get_or steps i step → drop i steps ≡ step ∷ drop (i + 1) steps
next_step steps i step h e = drop-cons steps i step h ∙ (λ j. sym e j ∷ drop (sym (add-one i) j) steps)

-- a refusal that is handed on
pub handed_on : (clauses : List (List ℤ)) (cube : List ℤ) (steps : List Step) (r : Result Accepted (PlacedFault StepFault)) (refusal : PlacedFault StepFault) →
    IsErrAnd r (λ other. other ≡ refusal) → IsRefusal (IsRefused clauses cube steps) refusal → IfErr r (λ other. IsRefusal (IsRefused clauses cube steps) other)
handed_on clauses cube steps (Ok x) refusal e h = tt
handed_on clauses cube steps (Err other) refusal e h = subst (λ (o : PlacedFault StepFault). IsRefusal (IsRefused clauses cube steps) o) (sym e) h
