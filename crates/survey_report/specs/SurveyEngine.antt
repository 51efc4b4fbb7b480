-- What the engine that decides long traces answers and writes.
use Rattle.std.specs.Prelude.{◌≡◌, ◌⊎◌, ◌≤◌, ⊤, ℕ, true, List, [], ◌∷◌, ◌++◌, Result, Ok, Err}
use Rattle.cube_jobs.specs.Options.{OptionsValue}
use Rattle.part_text.specs.PartText.{part_text}
use Rattle.reducer.specs.Reduction.{kept_trace}
use Rattle.schedule_text.specs.ScheduleText.{SpellsSchedule}
use Rattle.schedule_text.specs.ScheduleWritten.{canonical_schedule}
use Rattle.survey_verdict.specs.Hinted.{FollowsWithHint}
use Rattle.survey_verdict.specs.declared.surveyed.ReasonCertificate.{ReasonCertificate}
use Rattle.survey_verdict.specs.declared.surveyed.Surveyed.{Surveyed}
use Rattle.survey_verdict.specs.declared.surveyed.Surveyed.TheVariants.{Decided, Reasoned, Refuted, Undecided}
use Rattle.survey_verdict.specs.Surveyed.{IsCertificateFor, IsLeftOpen, IsReasoned, IsSurveyed, IsUnrefutedChoice, core_names, core_of, core_part, extent_line, reasons_report, survey_certificate, survey_report}
use Rattle.surveyor.specs.declared.Extent.{Extent}
use Rattle.surveyor.specs.declared.Overview.{Overview}
use Rattle.trace_part.specs.TraceParts.{PartValue, IsPart}
use Rattle.trace_semantics.specs.declared.operation.OpName.{OpName}
use Rattle.trace_semantics.specs.Legal.{HasNoSchedule}
use Rattle.trace_semantics.specs.Trace.{TraceValue, IsTrace, operation_count, operation_names}
use Rattle.trace_text.specs.TraceFault.{HasTraceFault}
use Rattle.trace_text.specs.TraceText.{SpellsTrace}
use Rattle.verdict_report.specs.declared.fault.Fault.{Fault}
use Rattle.verdict_report.specs.declared.fault.Fault.TheVariants.{OutOfMemory, Schedule, Search, Trace}
use Rattle.verdict_report.specs.declared.status.Status.{Status}
use Rattle.verdict_report.specs.declared.status.Status.TheVariants.{No, Unknown}
use Rattle.verdict_report.specs.Engine.{AtOnce, InPieces, IsRunOfEngine, of_two}
use Rattle.verdict_report.specs.JudgeEngine.{HasFaultySchedule}
use Rattle.verdict_report.specs.Runs.{SourceRun, SinkRun, HandsOut}
use Rattle.verdict_report.specs.VerifyEngine.{status_of_decision}
use Rattle.trace_semantics.specs.ScheduleLimits.{limits_for}

-- the text spells a trace
pub record SpellsSome (text : List ℕ) : Type 0 where
  pub value : TraceValue
  pub is_trace : IsTrace value
  pub spelled : SpellsTrace text value

-- the text spells a trace, of which this is decided with the help of a survey and of searches with these options
pub record IsSurveyedFrom (options : OptionsValue) (text : List ℕ) (surveyed : Surveyed) : Type 0 where
  pub value : TraceValue
  pub is_trace : IsTrace value
  pub spelled : SpellsTrace text value
  pub decided : IsSurveyed options value surveyed

-- the text spells a schedule, within the limits of those of the trace: all operations of a trace in an order, some of them, or none
pub record SpellsHint (t : TraceValue) (text : List ℕ) : Type 0 where
  pub names : List OpName
  pub spelled : SpellsSchedule (limits_for t) text names

-- the text spells a trace, of which this is decided, and another a hint: if that is a legal schedule, it is what is decided, and else this
-- follows from something that a surveyor may find in the trace
pub record FollowsFromTexts (options : OptionsValue) (IsFound : TraceValue → Overview → Type 0) (text hint : List ℕ) (surveyed : Surveyed) : Type 0 where
  pub value : TraceValue
  pub is_trace : IsTrace value
  pub spelled : SpellsTrace text value
  pub hinted : SpellsHint value hint
  pub decided : IsSurveyed options value surveyed
  pub follows : FollowsWithHint options value hinted.names (IsFound value) surveyed

-- what is said of the texts of a trace and of a hint: what is decided of the trace, by some search, or why nothing is, which is the first fault
-- of the first text that has one; a search that was cut off is reported only of texts that spell a trace and a hint
abbrev pub IsSaidOfSurvey : List ℕ → List ℕ → Result Surveyed Fault → Type 0
IsSaidOfSurvey text hint (Ok surveyed) = (options : OptionsValue) × (from : IsSurveyedFrom options text surveyed) × SpellsHint from.value hint
IsSaidOfSurvey text hint (Err OutOfMemory) = ⊤
IsSaidOfSurvey text hint (Err (Trace cause line)) = HasTraceFault text cause line
IsSaidOfSurvey text hint (Err (Schedule cause line)) = HasFaultySchedule text hint cause line
IsSaidOfSurvey text hint (Err (Search cause)) = (some : SpellsSome text) × SpellsHint some.value hint
IsSaidOfSurvey text hint (Err fault) = ⊥

-- the status that goes with what is decided
abbrev pub status_of_survey : Surveyed → Status
status_of_survey (Decided decision) = status_of_decision decision
status_of_survey (Refuted core) = No
status_of_survey (Reasoned reasons) = No
status_of_survey (Undecided extent) = Unknown

-- the texts that are written: the report alone
abbrev pub texts_of_survey : Surveyed → List (List ℕ)
texts_of_survey surveyed = survey_report surveyed ∷ []

-- the texts that are written if a certificate is asked for: first that, then the names of the core and its part, and then the report
abbrev pub texts_with_core : Surveyed → List (List ℕ)
texts_with_core surveyed = survey_certificate surveyed ∷ core_names surveyed ∷ core_part surveyed ∷ survey_report surveyed ∷ []

-- what the engine answers, by what the sources of the trace and of the hint hand out and the sink takes
abbrev pub IsRunOfSurvey : SourceRun → SourceRun → SinkRun → Result Status Fault → Type 0
IsRunOfSurvey trace hint out = IsRunOfEngine AtOnce (of_two IsSaidOfSurvey) texts_of_survey status_of_survey (trace ∷ hint ∷ []) (out ∷ [])

-- the same if a certificate is asked for, by what the sources hand out and the sinks take: those of the certificate, of the names, of the
-- part, and of the report
abbrev pub IsRunOfCertifiedSurvey : SourceRun → SourceRun → SinkRun → SinkRun → SinkRun → SinkRun → Result Status Fault → Type 0
IsRunOfCertifiedSurvey trace hint cert names part out =
    IsRunOfEngine InPieces (of_two IsSaidOfSurvey) texts_with_core status_of_survey (trace ∷ hint ∷ []) (cert ∷ names ∷ part ∷ out ∷ [])

-- the source handed out the text of a trace, and the sink took the line that says how far the survey came, by which no more operations were
-- placed than the trace has; a search of the whole trace with these options need not decide it, as it need not decide any trace
pub record TellsExtent (options : OptionsValue) (trace : SourceRun) (out : SinkRun) : Type 0 where
  pub text : List ℕ
  pub handed : HandsOut trace text
  pub value : TraceValue
  pub is_trace : IsTrace value
  pub spelled : SpellsTrace text value
  pub extent : Extent
  pub whole : out.now ≡ out.before ++ extent_line extent
  pub placed : extent.placed ≤ operation_count value
  pub left_open : IsLeftOpen options value

-- The sources handed out the texts of a trace and of a hint, and the sink took the report of what is decided of the trace. That is the hint,
-- if it is a legal schedule. Else it follows from something that a surveyor may find in the trace: the first of its two findings that is a legal
-- schedule, a core of which the part is refuted, or a certificate of reasons that is accepted; and if neither is, what a search of the whole trace
-- decides. The status is the one for it.
pub record AnswersSurvey (options : OptionsValue) (IsFound : TraceValue → Overview → Type 0) (trace hint : SourceRun) (out : SinkRun) (status : Status) : Type 0 where
  pub text : List ℕ
  pub handed : HandsOut trace text
  pub hint_text : List ℕ
  pub hint_handed : HandsOut hint hint_text
  pub surveyed : Surveyed
  pub follows : FollowsFromTexts options IsFound text hint_text surveyed
  pub whole : out.now ≡ out.before ++ survey_report surveyed
  pub status_is : status ≡ status_of_survey surveyed

-- The source handed out the text of a trace that has no legal schedule. One sink took the names of a core, one a line, by process and place,
-- and this text spells them; one the text of the part that they make up, which spells that part, a trace, with the names of its operations in
-- the whole; and one the text of a certificate, which is accepted for the clauses of what is kept of this part, at most 160 operations.
pub record CertifiesCore (trace : SourceRun) (cert names_sink part_sink : SinkRun) : Type 0 where
  pub text : List ℕ
  pub handed : HandsOut trace text
  pub value : TraceValue
  pub is_trace : IsTrace value
  pub spelled : SpellsTrace text value
  pub names : List OpName
  pub in_order : names ≡ core_of value names
  pub told : names_sink.now ≡ names_sink.before ++ canonical_schedule names
  pub names_spelled : SpellsSchedule (limits_for value) (canonical_schedule names) names
  pub made : PartValue
  pub is_part : IsPart value names made
  pub part_is_trace : IsTrace made.trace
  pub few_left : operation_count (kept_trace made.trace) ≤ 160
  pub part_told : part_sink.now ≡ part_sink.before ++ part_text true made
  pub part_spelled : SpellsTrace (part_text true made) made.trace
  pub written : List ℕ
  pub whole : cert.now ≡ cert.before ++ written
  pub certified : IsCertificateFor made.trace written
  pub none_legal : HasNoSchedule value

-- The source handed out the text of a trace that has no legal schedule, and the sink took the text of a certificate, which is accepted for
-- the clauses of what is kept of the whole trace, at most 160 operations. A search with these options need not refute the part that all
-- operations make up, as it need not refute any trace.
pub record CertifiesWhole (options : OptionsValue) (trace : SourceRun) (cert : SinkRun) : Type 0 where
  pub text : List ℕ
  pub handed : HandsOut trace text
  pub value : TraceValue
  pub is_trace : IsTrace value
  pub spelled : SpellsTrace text value
  pub written : List ℕ
  pub whole : cert.now ≡ cert.before ++ written
  pub certified : IsCertificateFor value written
  pub none_legal : HasNoSchedule value
  pub few_left : operation_count (kept_trace value) ≤ 160
  pub unrefuted : IsUnrefutedChoice options value (operation_names value)

-- The source handed out the text of a trace that has no legal schedule. One sink took the text of a certificate of reasons that is accepted
-- of the trace, and another the report on it, which says how many clauses it has.
pub record CertifiesReasons (trace : SourceRun) (cert out : SinkRun) : Type 0 where
  pub text : List ℕ
  pub handed : HandsOut trace text
  pub value : TraceValue
  pub is_trace : IsTrace value
  pub spelled : SpellsTrace text value
  pub reasons : ReasonCertificate
  pub reasoned : IsReasoned value reasons
  pub none_legal : HasNoSchedule value
  pub whole : cert.now ≡ cert.before ++ reasons.text.items
  pub told : out.now ≡ out.before ++ reasons_report reasons

-- the certificate is that of a core's part, whose names and text were taken; or that of the whole trace or one of reasons, and no name and no
-- part was taken
abbrev pub CertifiesSurvey : OptionsValue → SourceRun → SinkRun → SinkRun → SinkRun → SinkRun → Type 0
CertifiesSurvey options trace cert names part out =
    CertifiesCore trace cert names part ⊎ ((CertifiesWhole options trace cert ⊎ CertifiesReasons trace cert out) × (names.now ≡ names.before) × (part.now ≡ part.before))
