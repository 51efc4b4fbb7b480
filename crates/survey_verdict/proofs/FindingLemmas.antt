-- What follows from what a surveyor finds.
use Rattle.std.proofs.Common.{◌≡◌, ◌≤◌, ℕ, List, ap, subst, sym, ◌∙◌}
use Rattle.std.specs.Prelude.{◌↔◌, Option, Some, None}
use Rattle.cube_jobs.specs.Options.{OptionsValue}
use Rattle.reducer.specs.Reduction.{kept_trace}
use Rattle.surveyor.specs.declared.Extent.{Extent}
use Rattle.survey_verdict.specs.declared.surveyed.RefutedCore.{RefutedCore}
use Rattle.survey_verdict.specs.declared.surveyed.Surveyed.TheVariants.{Decided, Refuted}
use Rattle.survey_verdict.specs.Findings.{IsDecidedWhole}
use Rattle.survey_verdict.specs.Surveyed.{IsRefutedChoice, core_of}
use Rattle.survey_verdict.proofs.CoreNameLemmas.{core_of_all}
use Rattle.trace_decision.specs.declared.decision.Decision.TheVariants.{Inconsistent}
use Rattle.trace_decision.specs.declared.refutation.Refutation.{Refutation}
use Rattle.trace_decision.specs.Decision.{IsDecided}
use Rattle.trace_semantics.specs.declared.judgement.IllegalCause.{IllegalCause}
use Rattle.trace_semantics.specs.declared.judgement.Judgement.{Judgement}
use Rattle.trace_semantics.specs.declared.judgement.Judgement.TheVariants.{Legal, Illegal}
use Rattle.trace_semantics.specs.declared.operation.OpName.{OpName}
use Rattle.trace_semantics.specs.Judgement.{IsJudgement}
use Rattle.trace_semantics.specs.Legal.{IsLegal}
use Rattle.trace_semantics.specs.Trace.{TraceValue, IsTrace, operation_count, operation_names}

-- a schedule with a fault is not legal
pub not_legal : ((t : TraceValue) (names : List OpName) → IsTrace t → IsJudgement t names Legal ↔ IsLegal t names) →
    ((t : TraceValue) (names : List OpName) (j k : Judgement) → IsJudgement t names j → IsJudgement t names k → j ≡ k) →
    (t : TraceValue) → IsTrace t → (given schedule : List OpName) → schedule ≡ given → (j : Judgement) → IsJudgement t schedule j → (cause : IllegalCause) (place : ℕ) → j ≡ Illegal cause place → IsLegal t given → ⊥
not_legal law one t ok given schedule same j judged cause place is legal =
    let here : IsLegal t schedule = subst (λ (n : List OpName). IsLegal t n) (sym same) legal in
    let wrong : Legal ≡ Illegal cause place = one t schedule Legal j ((law t schedule ok).1 here) judged ∙ is in
    cc

-- the core of all operations, or that their part is not refuted
module _ (options : OptionsValue) (t : TraceValue) (all : List OpName) (all_are : all ≡ operation_names t) (found : Option RefutedCore) (given : IsRefutedChoice options t (core_of t all) found) where
  of_all : IsRefutedChoice options t (operation_names t) found
  of_all = subst (λ (names : List OpName). IsRefutedChoice options t names found) (ap (core_of t) all_are ∙ core_of_all t) given

  pub all_refuted : (core : RefutedCore) → found ≡ Some core → (extent : Extent) → IsDecidedWhole options t extent (Refuted core)
  all_refuted core is extent =
      let here : IsRefutedChoice options t (operation_names t) (Some core) = subst (λ (f : Option RefutedCore). IsRefutedChoice options t (operation_names t) f) is of_all in
      (here.1, here.0)

  pub all_unrefuted : (refutation : Refutation) → IsDecided options t (Inconsistent refutation) → operation_count (kept_trace t) ≤ 160 → found ≡ None → (extent : Extent) → IsDecidedWhole options t extent (Decided (Inconsistent refutation))
  all_unrefuted refutation decided few is extent =
      let here : IsRefutedChoice options t (operation_names t) None = subst (λ (f : Option RefutedCore). IsRefutedChoice options t (operation_names t) f) is of_all in
      ((decided, here, few), tt)
