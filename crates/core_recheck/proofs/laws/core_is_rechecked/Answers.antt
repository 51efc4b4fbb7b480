use Rattle.std.proofs.Common.{◌≡◌, ℕ, ◌≤◌, List, inl, inr, ap, subst, sym, ◌∙◌, arith}
use Rattle.std.specs.Prelude.{Result, Ok, Err}
use Rattle.text_lines.specs.FirstFault.{IsFirstFault}
use Rattle.text_lines.proofs.FaultLemmas.{none_is_some}
use Rattle.trace_semantics.specs.declared.operation.OpName.{OpName}
use Rattle.trace_semantics.specs.Judgement.{has_come}
use Rattle.trace_semantics.specs.Trace.{TraceValue, IsTrace, operation_count}
use Rattle.trace_text.specs.TraceText.{SpellsTrace}
use Rattle.trace_text.proofs.OneTraceLemmas.{one_spelled as one_trace}
use Rattle.trace_text.proofs.NeverFaulty.TraceClearLemmas.{never_both as trace_never_faulty}
use Rattle.schedule_text.specs.ScheduleText.{SpellsSchedule, HasScheduleFault}
use Rattle.schedule_text.proofs.ScheduleTextLemmas.{one_spelled as one_schedule, never_both as schedule_never_faulty}
use Rattle.reducer.specs.Reduction.{kept_trace}
use Rattle.reducer.specs.declared.reduce_fault.ReduceCause.TheVariants.{StillTooLarge}
use Rattle.trace_part.specs.Choice.{fault_of_choice}
use Rattle.trace_part.specs.TraceParts.{PartValue, IsPart}
use Rattle.trace_part.specs.declared.part_fault.PartCause.{PartCause}
use Rattle.clause_blocks.specs.Clauses.{clauses_of}
use Rattle.certificate.specs.CertText.{SpellsCertificate}
use Rattle.certificate.specs.Rechecked.{IsRechecked, HasRecheckFault}
use Rattle.certificate.specs.declared.cert_fault.CertCause.{CertCause}
use Rattle.certificate.specs.declared.certificate.Certificate.{Certificate}
use Rattle.certificate.proofs.RefusalLemmas.{never_both as never_refused}
use Rattle.certificate.proofs.CertificateText.TextLawLemmas.{one_spelled as one_certificate, never_both as cert_never_faulty}
use Rattle.cube_jobs.specs.Options.{OptionsValue}
use Rattle.cube_tree.specs.CubeTree.{leaves}
use Rattle.survey_verdict.specs.declared.surveyed.RefutedCore.{RefutedCore}
use Rattle.survey_verdict.specs.declared.surveyed.Surveyed.TheVariants.{Refuted}
use Rattle.survey_verdict.specs.Surveyed.{IsRefutedCore, core_names, survey_certificate}
use Rattle.trace_decision.specs.Decision.{certificate_in}
use Rattle.verdict_report.specs.declared.fault.Fault.{Fault}
use Rattle.verdict_report.specs.declared.fault.Fault.TheVariants.{OutOfMemory, Device, InputTooLong, Trace, Schedule, Part, Model, Cnf, Lrat, Reduce, Decode, Check, Cert, Reasons, Search}
use Rattle.part_report.specs.PartEngine.{HasFaultyChoice, MakeUp}
use Rattle.part_report.specs.PartRecheckEngine.{AreNotRecheckedByPart, IsSaidByPart}
use Rattle.core_recheck.specs.CoreRecheck.{IsAcceptedOf}
use Rattle.core_recheck.proofs.laws.core_is_rechecked.Goals as goal
use Rattle.trace_semantics.specs.ScheduleLimits.{limits_for}

-- What is written of a core is accepted.

module _ (options : OptionsValue) (t : TraceValue) (core : RefutedCore) (trace_text : List ℕ) (ok : IsTrace t) (spelled : SpellsTrace trace_text t) (given : IsRefutedCore options t core)
    (written : SpellsCertificate (survey_certificate (Refuted core)) (certificate_in core.refutation))
    (accepted : IsRechecked (clauses_of (kept_trace core.part.trace)) (certificate_in core.refutation) (leaves core.refutation.tree))
    (listed : SpellsSchedule (limits_for t) (core_names (Refuted core)) core.names)
    (one_part : (t : TraceValue) (names others : List OpName) (p q : PartValue) → IsTrace t → ((n : OpName) → has_come names n ≡ has_come others n) → IsPart t names p → IsPart t others q → p ≡ q) where
  -- the part that is made is that of the core
  same_part : (made : PartValue) → MakeUp trace_text (core_names (Refuted core)) made → made.trace ≡ core.part.trace
  same_part made up =
      let value_is : up.value ≡ t = one_trace trace_text up.value t up.is_trace ok up.spelled spelled in
      let names_are : up.names ≡ core.names = one_schedule (limits_for t) (core_names (Refuted core)) up.names core.names (subst (λ (v : TraceValue). SpellsSchedule (limits_for v) (core_names (Refuted core)) up.names) value_is up.listed) listed in
      let here : IsPart t up.names made = subst (λ (v : TraceValue). IsPart v up.names made) value_is up.is_part in
      ap (λ (p : PartValue). p.trace) (one_part t up.names core.names made core.part ok (λ n. ap (λ (l : List OpName). has_come l n) names_are) here given.is_part)

  one : (certificate : Certificate) → SpellsCertificate (survey_certificate (Refuted core)) certificate → certificate ≡ certificate_in core.refutation
  one certificate read = one_certificate (survey_certificate (Refuted core)) certificate (certificate_in core.refutation) read written

  -- the certificate is not refused for it
  not_refused : (cause : CertCause) (leaf : ℕ) → AreNotRecheckedByPart trace_text (survey_certificate (Refuted core)) (core_names (Refuted core)) cause leaf → ⊥
  not_refused cause leaf f =
      let here : HasRecheckFault (clauses_of (kept_trace core.part.trace)) f.certificate cause leaf = subst (λ (w : TraceValue). HasRecheckFault (clauses_of (kept_trace w)) f.certificate cause leaf) (same_part f.made f.made_up) f.refused in
      let there : HasRecheckFault (clauses_of (kept_trace core.part.trace)) (certificate_in core.refutation) cause leaf = subst (λ (d : Certificate). HasRecheckFault (clauses_of (kept_trace core.part.trace)) d cause leaf) (one f.certificate f.spelled) here in
      never_refused (clauses_of (kept_trace core.part.trace)) (certificate_in core.refutation) (leaves core.refutation.tree) cause leaf accepted there

  -- the names are a choice
  well_chosen : (cause : PartCause) (line : ℕ) → HasFaultyChoice trace_text (core_names (Refuted core)) cause line → ⊥
  well_chosen cause line f =
      let value_is : f.value ≡ t = one_trace trace_text f.value t f.is_trace ok f.spelled spelled in
      let names_are : f.names ≡ core.names = one_schedule (limits_for t) (core_names (Refuted core)) f.names core.names (subst (λ (v : TraceValue). SpellsSchedule (limits_for v) (core_names (Refuted core)) f.names) value_is f.listed) listed in
      let here : IsFirstFault (fault_of_choice t) f.names f.faulty.place cause = subst (λ (v : TraceValue). IsFirstFault (fault_of_choice v) f.names f.faulty.place cause) value_is f.faulty.faulty in
      let first : IsFirstFault (fault_of_choice t) core.names f.faulty.place cause = subst (λ (n : List OpName). IsFirstFault (fault_of_choice t) n f.faulty.place cause) names_are here in
      none_is_some cause (sym (given.is_part.choice first.before first.item first.after first.parts) ∙ first.faulty)

  rechecked : (result : Result ℕ Fault) → IsSaidByPart trace_text (survey_certificate (Refuted core)) (core_names (Refuted core)) result → IsAcceptedOf (leaves core.refutation.tree) result
  rechecked (Ok count) said = said.rechecked.counted ∙ ap (λ (c : Certificate). leaves c.tree) (one said.certificate said.spelled) ∙ sym accepted.counted
  rechecked (Err OutOfMemory) said = tt
  rechecked (Err (Trace cause line)) said = absurd (trace_never_faulty trace_text t cause line ok spelled said)
  rechecked (Err (Schedule cause line)) said =
      let value_is : said.1.value ≡ t = one_trace trace_text said.1.value t said.1.is_trace ok said.1.spelled spelled in
      absurd (schedule_never_faulty (limits_for t) (core_names (Refuted core)) core.names cause line listed (subst (λ (v : TraceValue). HasScheduleFault (limits_for v) (core_names (Refuted core)) cause line) value_is said.1.faulty))
  rechecked (Err (Part cause line)) said = absurd (well_chosen cause line said.1)
  rechecked (Err (Cert cause place)) (inl f) = absurd (cert_never_faulty (survey_certificate (Refuted core)) (certificate_in core.refutation) cause place written f.faulty)
  rechecked (Err (Cert cause place)) (inr f) = absurd (not_refused cause place f)
  rechecked (Err (Reduce StillTooLarge left)) f =
      let few : operation_count (kept_trace f.made.trace) ≤ 160 = subst (λ (w : TraceValue). operation_count (kept_trace w) ≤ 160) (sym (same_part f.made f.made_up)) given.few_left in
      absurd (omega (arith, few, f.refused.0, f.refused.1))
  rechecked (Err Device) said = absurd said
  rechecked (Err InputTooLong) said = absurd said
  rechecked (Err (Model cause line)) said = absurd said
  rechecked (Err (Cnf cause line)) said = absurd said
  rechecked (Err (Lrat cause line)) said = absurd said
  rechecked (Err (Decode cause clause)) said = absurd said
  rechecked (Err (Check cause step)) said = absurd said
  rechecked (Err (Reasons cause line)) said = absurd said
  rechecked (Err (Search fault)) said = absurd said

pub returns : goal.returns
returns c options t core trace_text result ok spelled given said =
    rechecked options t core trace_text ok spelled given (c.certificate_is_accepted.ensures.spelled options core.part.trace core.refutation given.refuted) (c.certificate_is_accepted.ensures.accepted options core.part.trace core.refutation given.refuted)
    (c.core_names_spell.ensures options t core ok given) c.part_is_one.ensures result said
