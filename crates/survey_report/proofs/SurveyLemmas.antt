-- How the engine that decides long traces ends, and what follows from its status.
use Rattle.std.proofs.Common.{◌≡◌, ℕ, ◌+◌, List, [], ◌∷◌, ◌++◌, inl, inr, refl, sym, ◌∙◌, subst, arith, append-nil}
use Rattle.std.specs.Prelude.{Result, Ok, Err}
use Rattle.certificate.specs.CertText.{SpellsCertificate}
use Rattle.certificate.specs.Rechecked.{IsRechecked}
use Rattle.clause_blocks.specs.Clauses.{clauses_of}
use Rattle.cube_jobs.specs.declared.search_fault.SearchCause.{SearchCause}
use Rattle.cube_jobs.specs.Options.{OptionsValue}
use Rattle.cube_tree.specs.CubeTree.{leaves}
use Rattle.dimacs.specs.declared.sink_fault.SinkFault.{SinkFault}
use Rattle.dimacs.specs.declared.sink_fault.SinkFault.TheVariants.{OutOfMemory as NoRoom, Device as SinkFails}
use Rattle.dimacs.specs.Sink.{AppendsFront}
use Rattle.dimacs.specs.SinkFault.{failures_told}
use Rattle.reducer.specs.Reduction.{kept_trace}
use Rattle.schedule_text.specs.ScheduleText.{SpellsSchedule}
use Rattle.schedule_text.specs.ScheduleWritten.{canonical_schedule}
use Rattle.survey_verdict.specs.declared.surveyed.RefutedCore.{RefutedCore}
use Rattle.survey_verdict.specs.declared.surveyed.Surveyed.{Surveyed}
use Rattle.survey_verdict.specs.declared.surveyed.Surveyed.TheVariants.{Decided, Reasoned, Refuted, Undecided}
use Rattle.survey_verdict.specs.Surveyed.{IsCertificateFor, IsSurveyed, core_names, core_part, survey_certificate, survey_report}
use Rattle.surveyor.specs.declared.Overview.{Overview}
use Rattle.text_lines.specs.declared.plain_fault.PlainFault.{PlainFault}
use Rattle.text_lines.specs.declared.plain_fault.PlainFault.TheVariants.{OutOfMemory as NoMemoryToSearch, For}
use Rattle.trace_semantics.specs.declared.operation.OpName.{OpName}
use Rattle.trace_semantics.specs.Legal.{IsLegal}
use Rattle.trace_semantics.specs.Trace.{TraceValue, IsTrace}
use Rattle.trace_text.specs.TraceText.{SpellsTrace}
use Rattle.trace_decision.specs.declared.decision.Decision.TheVariants.{Consistent, Inconsistent, Unknown as NotDecided}
use Rattle.trace_decision.specs.declared.refutation.Refutation.{Refutation}
use Rattle.trace_decision.specs.Decision.{IsDecided, certificate_in, certificate_text}
use Rattle.verdict_report.specs.declared.fault.Fault.{Fault}
use Rattle.verdict_report.specs.declared.fault.Fault.TheVariants.{OutOfMemory, Device, InputTooLong, Trace, Schedule, Part, Model, Cnf, Lrat, Reduce, Decode, Check, Cert, Reasons, Search}
use Rattle.verdict_report.specs.declared.status.Status.{Status}
use Rattle.verdict_report.specs.declared.status.Status.TheVariants.{Yes, No, Unknown}
use Rattle.verdict_report.specs.Engine.{HandOut, IsRunOfWriting, Reads, TakeNothing, TakesNothing, TakesWhole, of_two}
use Rattle.verdict_report.specs.Fault.{fault_of_sink, fault_of_search}
use Rattle.verdict_report.specs.RecheckEngine.{InputHasNoLegalSchedule}
use Rattle.verdict_report.specs.Runs.{SourceRun, SinkRun, HandsOut}
use Rattle.verdict_report.specs.VerifyEngine.{ReportsLegalSchedule}
use Rattle.survey_report.specs.SurveyEngine.{AnswersSurvey, CertifiesSurvey, FollowsFromTexts, IsRunOfCertifiedSurvey, IsSaidOfSurvey, IsSurveyedFrom, SpellsHint, SpellsSome, TellsExtent, status_of_survey}
use Rattle.trace_semantics.specs.ScheduleLimits.{limits_for}

-- what is said of two texts is said of texts that are equal to them
pub said_of_equal : {first text second hint : List ℕ} → first ≡ text → second ≡ hint → (surveyed : Surveyed) → IsSaidOfSurvey first second (Ok surveyed) → IsSaidOfSurvey text hint (Ok surveyed)
said_of_equal {first} {text} {second} {hint} p q surveyed said = subst (λ h. IsSaidOfSurvey text h (Ok surveyed)) q (subst (λ t. IsSaidOfSurvey t second (Ok surveyed)) p said)

-- the search has no results
pub unsearched : (text hint : List ℕ) → (some : SpellsSome text) → SpellsHint some.value hint → (fault : PlainFault SearchCause) → IsSaidOfSurvey text hint (Err (fault_of_search fault))
unsearched text hint some hinted NoMemoryToSearch = tt
unsearched text hint some hinted (For cause) = (some, hinted)

-- a sink that takes nothing takes a prefix of any text
nothing_is_front : (out : SinkRun) (text : List ℕ) → TakesNothing out → AppendsFront out.before out.now text
nothing_is_front out text none = record { front = []; back = text; parts = refl; appended = none.0 ∙ sym (append-nil out.before) }

module _ (trace hint : SourceRun) (cert names part out : SinkRun) (text hint_text : List ℕ) (handed : HandOut (trace ∷ hint ∷ []) (text ∷ hint_text ∷ [])) (surveyed : Surveyed) (is_said : IsSaidOfSurvey text hint_text (Ok surveyed)) where
  reads : Reads (of_two IsSaidOfSurvey) (trace ∷ hint ∷ []) (Ok surveyed)
  reads = record { texts = text ∷ hint_text ∷ []; handed = handed; is_said = is_said }

  -- the certificate is cut off
  pub cert_cut_off : (fault : SinkFault) → AppendsFront cert.before cert.now (survey_certificate surveyed) → cert.failures_now ≡ cert.failures_before + failures_told fault → TakesNothing names → TakesNothing part → TakesNothing out →
      IsRunOfCertifiedSurvey trace hint cert names part out (Err (fault_of_sink fault))
  cert_cut_off NoRoom front counts no_names no_part none = inr (record { answer = surveyed; reads = reads; stopped = inl ((front, omega (arith, counts)), (no_names, (no_part, (none, tt)))) })
  cert_cut_off SinkFails front counts no_names no_part none = inr (record { answer = surveyed; reads = reads; stopped = inl ((front, omega (arith, counts)), (no_names, (no_part, (none, tt)))) })

  -- the certificate is written
  module _ (whole : TakesWhole cert (survey_certificate surveyed)) where
    -- the names are cut off
    pub names_cut_off : (fault : SinkFault) → AppendsFront names.before names.now (core_names surveyed) → names.failures_now ≡ names.failures_before + failures_told fault → TakesNothing part → TakesNothing out →
        IsRunOfCertifiedSurvey trace hint cert names part out (Err (fault_of_sink fault))
    names_cut_off NoRoom front counts no_part none = inr (record { answer = surveyed; reads = reads; stopped = inr (whole, inl ((front, omega (arith, counts)), (no_part, (none, tt)))) })
    names_cut_off SinkFails front counts no_part none = inr (record { answer = surveyed; reads = reads; stopped = inr (whole, inl ((front, omega (arith, counts)), (no_part, (none, tt)))) })

    -- so are the names, and the part is cut off
    pub part_cut_off : TakesWhole names (core_names surveyed) → (fault : SinkFault) → AppendsFront part.before part.now (core_part surveyed) → part.failures_now ≡ part.failures_before + failures_told fault → TakesNothing out →
        IsRunOfCertifiedSurvey trace hint cert names part out (Err (fault_of_sink fault))
    part_cut_off told NoRoom front counts none = inr (record { answer = surveyed; reads = reads; stopped = inr (whole, inr (told, inl ((front, omega (arith, counts)), (none, tt)))) })
    part_cut_off told SinkFails front counts none = inr (record { answer = surveyed; reads = reads; stopped = inr (whole, inr (told, inl ((front, omega (arith, counts)), (none, tt)))) })

    -- all three are written, and then the report
    pub report_written : TakesWhole names (core_names surveyed) → TakesWhole part (core_part surveyed) → (result : Result Status Fault) → IsRunOfWriting (survey_report surveyed) (status_of_survey surveyed) out result →
        IsRunOfCertifiedSurvey trace hint cert names part out result
    report_written told shown (Ok status) w = record { answer = surveyed; reads = reads; whole = (whole, (told, (shown, (w.1, tt)))); status_is = w.0 }
    report_written told shown (Err OutOfMemory) w = inr (record { answer = surveyed; reads = reads; stopped = inr (whole, inr (told, inr (shown, inl ((nothing_is_front out (survey_report surveyed) w, w.1), tt)))) })
    report_written told shown (Err Device) w = inr (record { answer = surveyed; reads = reads; stopped = inr (whole, inr (told, inr (shown, inl (w, tt)))) })
    report_written told shown (Err InputTooLong) w = absurd w
    report_written told shown (Err (Trace cause line)) w = absurd w
    report_written told shown (Err (Schedule cause line)) w = absurd w
    report_written told shown (Err (Part cause line)) w = absurd w
    report_written told shown (Err (Model cause line)) w = absurd w
    report_written told shown (Err (Cnf cause line)) w = absurd w
    report_written told shown (Err (Lrat cause line)) w = absurd w
    report_written told shown (Err (Reduce cause left)) w = absurd w
    report_written told shown (Err (Decode cause clause)) w = absurd w
    report_written told shown (Err (Check cause step)) w = absurd w
    report_written told shown (Err (Cert cause place)) w = absurd w
    report_written told shown (Err (Reasons cause line)) w = absurd w
    report_written told shown (Err (Search fault)) w = absurd w

-- what follows from the status
module _ (trace : SourceRun) (text : List ℕ) (handed : HandsOut trace text) (options : OptionsValue) (out : SinkRun)
    (spells : (value : TraceValue) (names : List OpName) → IsTrace value → IsLegal value names → SpellsSchedule (limits_for value) (canonical_schedule names) names) where
  tells : (surveyed : Surveyed) → IsSurveyedFrom options text surveyed → out.now ≡ out.before ++ survey_report surveyed → Yes ≡ status_of_survey surveyed → ReportsLegalSchedule trace out
  tells (Decided (Consistent names)) given whole is = record {
    text = text;
    handed = handed;
    value = given.value;
    is_trace = given.is_trace;
    spelled = given.spelled;
    schedule = canonical_schedule names;
    whole = whole;
    names = names;
    told = spells given.value names given.is_trace given.decided;
    legal = given.decided;
  }
  tells (Decided (Inconsistent refutation)) given whole is = absurd (let wrong : Yes ≡ No = is in cc)
  tells (Decided (NotDecided cubes)) given whole is = absurd (let wrong : Yes ≡ Unknown = is in cc)
  tells (Refuted core) given whole is = absurd (let wrong : Yes ≡ No = is in cc)
  tells (Reasoned reasons) given whole is = absurd (let wrong : Yes ≡ No = is in cc)
  tells (Undecided extent) given whole is = absurd (let wrong : Yes ≡ Unknown = is in cc)

  tells_extent : (surveyed : Surveyed) → IsSurveyedFrom options text surveyed → out.now ≡ out.before ++ survey_report surveyed → Unknown ≡ status_of_survey surveyed → TellsExtent options trace out
  tells_extent (Decided (Consistent names)) given whole is = absurd (let wrong : Unknown ≡ Yes = is in cc)
  tells_extent (Decided (Inconsistent refutation)) given whole is = absurd (let wrong : Unknown ≡ No = is in cc)
  tells_extent (Decided (NotDecided cubes)) given whole is = absurd given.decided
  tells_extent (Refuted core) given whole is = absurd (let wrong : Unknown ≡ No = is in cc)
  tells_extent (Reasoned reasons) given whole is = absurd (let wrong : Unknown ≡ No = is in cc)
  tells_extent (Undecided extent) given whole is = record {
    text = text;
    handed = handed;
    value = given.value;
    is_trace = given.is_trace;
    spelled = given.spelled;
    extent = extent;
    whole = whole;
    placed = given.decided.1;
    left_open = given.decided.0;
  }

  has_none : (surveyed : Surveyed) → IsSurveyedFrom options text surveyed → No ≡ status_of_survey surveyed → InputHasNoLegalSchedule trace
  has_none (Decided (Consistent names)) given is = absurd (let wrong : No ≡ Yes = is in cc)
  has_none (Decided (Inconsistent refutation)) given is = record {
    text = text;
    handed = handed;
    value = given.value;
    is_trace = given.is_trace;
    spelled = given.spelled;
    no_schedule = given.decided.0.1;
  }
  has_none (Decided (NotDecided cubes)) given is = absurd (let wrong : No ≡ Unknown = is in cc)
  has_none (Refuted core) given is = record {
    text = text;
    handed = handed;
    value = given.value;
    is_trace = given.is_trace;
    spelled = given.spelled;
    no_schedule = given.decided.none_legal;
  }
  has_none (Reasoned reasons) given is = record {
    text = text;
    handed = handed;
    value = given.value;
    is_trace = given.is_trace;
    spelled = given.spelled;
    no_schedule = given.decided.none_legal;
  }
  has_none (Undecided extent) given is = absurd (let wrong : No ≡ Unknown = is in cc)

  module _ (surveyed : Surveyed) (given : IsSurveyedFrom options text surveyed) (result : Result Status Fault) (w : IsRunOfWriting (survey_report surveyed) (status_of_survey surveyed) out result) where
    -- of the answer that the trace is consistent
    pub consistent : result ≡ Ok Yes → ReportsLegalSchedule trace out
    consistent so =
        let at : IsRunOfWriting (survey_report surveyed) (status_of_survey surveyed) out (Ok Yes) = subst (λ (r : Result Status Fault). IsRunOfWriting (survey_report surveyed) (status_of_survey surveyed) out r) so w in
        tells surveyed given at.1.0 at.0

    -- of the answer that it is not
    pub inconsistent : result ≡ Ok No → InputHasNoLegalSchedule trace
    inconsistent so =
        let at : IsRunOfWriting (survey_report surveyed) (status_of_survey surveyed) out (Ok No) = subst (λ (r : Result Status Fault). IsRunOfWriting (survey_report surveyed) (status_of_survey surveyed) out r) so w in
        has_none surveyed given at.0

    -- of the answer that nothing is decided
    pub undecided : result ≡ Ok Unknown → TellsExtent options trace out
    undecided so =
        let at : IsRunOfWriting (survey_report surveyed) (status_of_survey surveyed) out (Ok Unknown) = subst (λ (r : Result Status Fault). IsRunOfWriting (survey_report surveyed) (status_of_survey surveyed) out r) so w in
        tells_extent surveyed given at.1.0 at.0

-- what is written follows from what a surveyor may find
pub answered : (IsFound : TraceValue → Overview → Type 0) (trace hint : SourceRun) (text hint_text : List ℕ) → HandOut (trace ∷ hint ∷ []) (text ∷ hint_text ∷ []) → (options : OptionsValue) (out : SinkRun) (surveyed : Surveyed) →
    FollowsFromTexts options IsFound text hint_text surveyed →
    (result : Result Status Fault) → IsRunOfWriting (survey_report surveyed) (status_of_survey surveyed) out result → (status : Status) → result ≡ Ok status → AnswersSurvey options IsFound trace hint out status
answered IsFound trace hint text hint_text handed options out surveyed follows result w status so =
    let at : IsRunOfWriting (survey_report surveyed) (status_of_survey surveyed) out (Ok status) = subst (λ (r : Result Status Fault). IsRunOfWriting (survey_report surveyed) (status_of_survey surveyed) out r) so w in
    record {
      text = text;
      handed = handed.0.0;
      hint_text = hint_text;
      hint_handed = handed.1.0.0;
      surveyed = surveyed;
      follows = follows;
      whole = at.1.0;
      status_is = at.0;
    }

-- what the laws say of the texts of an INCONSISTENT
module _ (trace : SourceRun) (cert names part out : SinkRun) (text : List ℕ) (handed : HandsOut trace text) (options : OptionsValue)
    (spells : (options : OptionsValue) (value : TraceValue) (refutation : Refutation) → IsDecided options value (Inconsistent refutation) → SpellsCertificate (certificate_text (Inconsistent refutation)) (certificate_in refutation))
    (accepted : (options : OptionsValue) (value : TraceValue) (refutation : Refutation) → IsDecided options value (Inconsistent refutation) → IsRechecked (clauses_of (kept_trace value)) (certificate_in refutation) (leaves refutation.tree))
    (certified_core : (options : OptionsValue) (t : TraceValue) (core : RefutedCore) → IsSurveyed options t (Refuted core) → IsCertificateFor core.part.trace (survey_certificate (Refuted core)))
    (part_spells : (options : OptionsValue) (t : TraceValue) (core : RefutedCore) → IsTrace t → IsSurveyed options t (Refuted core) → SpellsTrace (core_part (Refuted core)) core.part.trace)
    (names_spell : (options : OptionsValue) (t : TraceValue) (core : RefutedCore) → IsTrace t → IsSurveyed options t (Refuted core) → SpellsSchedule (limits_for t) (core_names (Refuted core)) core.names)
    (part_is_trace : (options : OptionsValue) (t : TraceValue) (core : RefutedCore) → IsTrace t → IsSurveyed options t (Refuted core) → IsTrace core.part.trace) where
  certifies : (surveyed : Surveyed) → IsSurveyedFrom options text surveyed → cert.now ≡ cert.before ++ survey_certificate surveyed → names.now ≡ names.before ++ core_names surveyed → part.now ≡ part.before ++ core_part surveyed →
      out.now ≡ out.before ++ survey_report surveyed → No ≡ status_of_survey surveyed → CertifiesSurvey options trace cert names part out
  certifies (Decided (Consistent schedule)) given whole told shown reported is = absurd (let wrong : No ≡ Yes = is in cc)
  certifies (Decided (Inconsistent refutation)) given whole told shown reported is = inr (
    inl (record {
      text = text;
      handed = handed;
      value = given.value;
      is_trace = given.is_trace;
      spelled = given.spelled;
      written = certificate_text (Inconsistent refutation);
      whole = whole;
      certified = record {
        certificate = certificate_in refutation;
        spelled = spells options given.value refutation given.decided.0;
        count = leaves refutation.tree;
        accepted = accepted options given.value refutation given.decided.0;
      };
      none_legal = given.decided.0.1;
      few_left = given.decided.2;
      unrefuted = given.decided.1;
    }),
    told ∙ append-nil names.before,
    shown ∙ append-nil part.before,
  )
  certifies (Decided (NotDecided cubes)) given whole told shown reported is = absurd (let wrong : No ≡ Unknown = is in cc)
  certifies (Refuted core) given whole told shown reported is = inl (record {
    text = text;
    handed = handed;
    value = given.value;
    is_trace = given.is_trace;
    spelled = given.spelled;
    names = core.names;
    in_order = given.decided.in_order;
    told = told;
    names_spelled = names_spell options given.value core given.is_trace given.decided;
    made = core.part;
    is_part = given.decided.is_part;
    part_is_trace = part_is_trace options given.value core given.is_trace given.decided;
    few_left = given.decided.few_left;
    part_told = shown;
    part_spelled = part_spells options given.value core given.is_trace given.decided;
    written = survey_certificate (Refuted core);
    whole = whole;
    certified = certified_core options given.value core given.decided;
    none_legal = given.decided.none_legal;
  })
  certifies (Reasoned reasons) given whole told shown reported is = inr (
    inr (record {
      text = text;
      handed = handed;
      value = given.value;
      is_trace = given.is_trace;
      spelled = given.spelled;
      reasons = reasons;
      reasoned = given.decided;
      none_legal = given.decided.none_legal;
      whole = whole;
      told = reported;
    }),
    told ∙ append-nil names.before,
    shown ∙ append-nil part.before,
  )
  certifies (Undecided extent) given whole told shown reported is = absurd (let wrong : No ≡ Unknown = is in cc)

  -- the answer is the one for what is decided
  pub certified : (surveyed : Surveyed) → IsSurveyedFrom options text surveyed → cert.now ≡ cert.before ++ survey_certificate surveyed → names.now ≡ names.before ++ core_names surveyed → part.now ≡ part.before ++ core_part surveyed →
      (result : Result Status Fault) → IsRunOfWriting (survey_report surveyed) (status_of_survey surveyed) out result → result ≡ Ok No → CertifiesSurvey options trace cert names part out
  certified surveyed given whole told shown result w so =
      let at : IsRunOfWriting (survey_report surveyed) (status_of_survey surveyed) out (Ok No) = subst (λ (r : Result Status Fault). IsRunOfWriting (survey_report surveyed) (status_of_survey surveyed) out r) so w in
      certifies surveyed given whole told shown at.1.0 at.0

-- a sink that takes no text takes nothing
nothing_taken : (sink : SinkRun) → TakesWhole sink [] → TakesNothing sink
nothing_taken sink whole = (whole.0 ∙ append-nil sink.before, whole.1)

-- with another answer than No the sinks of a core take nothing
module _ (cert names part : SinkRun) where
  takes_nothing : (surveyed : Surveyed) → (status_of_survey surveyed ≡ No → ⊥) → TakesWhole cert (survey_certificate surveyed) → TakesWhole names (core_names surveyed) → TakesWhole part (core_part surveyed) → TakeNothing (cert ∷ names ∷ part ∷ [])
  takes_nothing (Decided (Consistent schedule)) other whole told shown = (nothing_taken cert whole, (nothing_taken names told, (nothing_taken part shown, tt)))
  takes_nothing (Decided (Inconsistent refutation)) other whole told shown = absurd (other refl)
  takes_nothing (Decided (NotDecided cubes)) other whole told shown = (nothing_taken cert whole, (nothing_taken names told, (nothing_taken part shown, tt)))
  takes_nothing (Refuted core) other whole told shown = absurd (other refl)
  takes_nothing (Reasoned reasons) other whole told shown = absurd (other refl)
  takes_nothing (Undecided extent) other whole told shown = (nothing_taken cert whole, (nothing_taken names told, (nothing_taken part shown, tt)))

  pub silent : (surveyed : Surveyed) → TakesWhole cert (survey_certificate surveyed) → TakesWhole names (core_names surveyed) → TakesWhole part (core_part surveyed) → (out : SinkRun) (result : Result Status Fault) →
      IsRunOfWriting (survey_report surveyed) (status_of_survey surveyed) out result → (status : Status) → result ≡ Ok status → (status ≡ No → ⊥) → TakeNothing (cert ∷ names ∷ part ∷ [])
  silent surveyed whole told shown out result w status so other =
      let at : IsRunOfWriting (survey_report surveyed) (status_of_survey surveyed) out (Ok status) = subst (λ (r : Result Status Fault). IsRunOfWriting (survey_report surveyed) (status_of_survey surveyed) out r) so w in
      takes_nothing surveyed (λ is_no. other (at.0 ∙ is_no)) whole told shown
