-- What is shown of a trace by what is shown of its reduction, and of a core by what is shown of its part.
use Rattle.std.proofs.Common.{◌≡◌, ◌≤◌, List, inl, inr, subst, sym, ◌∙◌}
use Rattle.std.specs.Prelude.{Option, Some, None}
use Rattle.certificate.specs.CertText.{SpellsCertificate}
use Rattle.certificate.specs.Rechecked.{IsRechecked}
use Rattle.clause_blocks.specs.Clauses.{clauses_of}
use Rattle.cube_jobs.specs.Options.{OptionsValue}
use Rattle.cube_tree.specs.CubeTree.{leaves}
use Rattle.reducer.specs.Reduced.{ReducedValue}
use Rattle.reducer.specs.Reduction.{kept_trace}
use Rattle.survey_verdict.specs.declared.surveyed.RefutedCore.{RefutedCore}
use Rattle.survey_verdict.specs.Surveyed.{IsCertificateFor, IsDecidedIfShort, IsNotRefuted, IsReducedIfSmall, IsRefutedChoice, IsRefutedCore, IsRefutedIfShort, IsTooLong, core_of, refutation_in}
use Rattle.survey_verdict.proofs.CoreNameLemmas.{in_order}
use Rattle.trace_decision.specs.declared.decision.Decision.{Decision}
use Rattle.trace_decision.specs.declared.decision.Decision.TheVariants.{Consistent, Inconsistent, Unknown}
use Rattle.trace_decision.specs.declared.refutation.Refutation.{Refutation}
use Rattle.trace_decision.specs.Decision.{IsDecided, certificate_in, certificate_text}
use Rattle.trace_part.specs.TraceParts.{PartValue, IsPart}
use Rattle.trace_semantics.specs.declared.operation.OpName.{OpName}
use Rattle.trace_semantics.specs.Legal.{HasNoSchedule}
use Rattle.trace_semantics.specs.Trace.{TraceValue, IsTrace, operation_count}

-- what the search of a reduced trace decides is decided of the whole
pub decided_of : (options : OptionsValue) (t : TraceValue) (small : Option ReducedValue) (reduced : ReducedValue) → small ≡ Some reduced → IsReducedIfSmall t small →
    (decision : Decision) → IsDecided options reduced.whole decision → IsDecidedIfShort options t (Some decision)
decided_of options t small reduced is_small given decision decided =
    let whole : IsReducedIfSmall t (Some reduced) = subst (λ (s : Option ReducedValue). IsReducedIfSmall t s) is_small given in
    let few : operation_count (kept_trace reduced.whole) ≤ 160 = subst (λ (k : TraceValue). operation_count k ≤ 160) whole.0.reduction whole.0.few in
    (subst (λ (w : TraceValue). IsDecided options w decision) whole.1 decided, subst (λ (w : TraceValue). operation_count (kept_trace w) ≤ 160) whole.1 few)

-- what refutes the trace is in what is decided, or it is not refuted
pub refuted_by : (options : OptionsValue) (t : TraceValue) (decision : Decision) → IsDecidedIfShort options t (Some decision) → IsRefutedIfShort options t (refutation_in decision)
refuted_by options t (Consistent schedule) given = inr (inl (schedule, given.0))
refuted_by options t (Inconsistent refutation) given = given
refuted_by options t (Unknown cubes) given = inr (inr (cubes, given.0))

-- what is said of the whole trace by what is decided of it
module _ (options : OptionsValue) (t : TraceValue) (decided : Option Decision) (given : IsDecidedIfShort options t decided) where
  pub decided_so : (decision : Decision) → decided ≡ Some decision → IsDecidedIfShort options t (Some decision)
  decided_so decision is = subst (λ (d : Option Decision). IsDecidedIfShort options t d) is given

  pub too_long : decided ≡ None → IsTooLong t
  too_long is = subst (λ (d : Option Decision). IsDecidedIfShort options t d) is given

-- the search refutes the part of the core, or does not
module _ (options : OptionsValue) (t : TraceValue) (names found : List OpName) (names_are : names ≡ core_of t found) (p : PartValue) (is_part : IsPart t names p)
    (trace : TraceValue) (trace_is : trace ≡ p.trace) (refuted : Option Refutation) (given : IsRefutedIfShort options trace refuted) where
  at_part : (result : Option Refutation) → refuted ≡ result → IsRefutedIfShort options p.trace result
  at_part result is = subst (λ (w : TraceValue). IsRefutedIfShort options w result) trace_is (subst (λ (r : Option Refutation). IsRefutedIfShort options trace r) is given)

  pub core_unrefuted : refuted ≡ None → IsRefutedChoice options t (core_of t found) None
  core_unrefuted is =
      let here : IsNotRefuted options p.trace = at_part None is in
      (p, subst (λ (n : List OpName). IsPart t n p) names_are is_part, here)

  pub core_refuted : IsTrace t →
      ((t : TraceValue) (names : List OpName) (p : PartValue) → IsTrace t → IsPart t names p → HasNoSchedule p.trace → HasNoSchedule t) →
      (told : List OpName) → told ≡ names → (refutation : Refutation) → refuted ≡ Some refutation → IsRefutedChoice options t (core_of t found) (Some (record { names = told; part = p; refutation = refutation }))
  core_refuted ok law told told_are refutation is =
      let here : IsRefutedIfShort options p.trace (Some refutation) = at_part (Some refutation) is in
      let all_are : told ≡ core_of t found = told_are ∙ names_are in
      let core : IsRefutedCore options t (record { names = told; part = p; refutation = refutation }) = record {
        in_order = in_order t told found all_are;
        is_part = subst (λ (n : List OpName). IsPart t n p) (sym told_are) is_part;
        few_left = here.1;
        refuted = here.0;
        none_legal = law t names p ok is_part here.0.1;
      } in
      (all_are, core)

-- the certificate that is written is accepted for the part
pub core_certified :
    ((options : OptionsValue) (value : TraceValue) (refutation : Refutation) → IsDecided options value (Inconsistent refutation) → SpellsCertificate (certificate_text (Inconsistent refutation)) (certificate_in refutation)) →
    ((options : OptionsValue) (value : TraceValue) (refutation : Refutation) → IsDecided options value (Inconsistent refutation) → IsRechecked (clauses_of (kept_trace value)) (certificate_in refutation) (leaves refutation.tree)) →
    (options : OptionsValue) (t : TraceValue) (core : RefutedCore) → IsRefutedCore options t core → IsCertificateFor core.part.trace (certificate_text (Inconsistent core.refutation))
core_certified spells accepted options t core given = record {
  certificate = certificate_in core.refutation;
  spelled = spells options core.part.trace core.refutation given.refuted;
  count = leaves core.refutation.tree;
  accepted = accepted options core.part.trace core.refutation given.refuted;
}
