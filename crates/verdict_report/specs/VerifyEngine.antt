-- What the engine that decides traces answers and writes.
use Rattle.std.specs.Prelude.{◌≡◌, ⊤, ℕ, ℤ, List, [], ◌∷◌, ◌++◌, codes, Result, Ok, Err}
use Rattle.certificate.specs.CertText.{SpellsCertificate}
use Rattle.certificate.specs.Rechecked.{IsRechecked}
use Rattle.certificate.specs.declared.certificate.Certificate.{Certificate}
use Rattle.clause_blocks.specs.Clauses.{clauses_of}
use Rattle.cube_jobs.specs.Options.{OptionsValue}
use Rattle.reducer.specs.declared.reduce_fault.ReduceCause.TheVariants.{StillTooLarge}
use Rattle.reducer.specs.Reduction.{kept_trace}
use Rattle.schedule_text.specs.ScheduleText.{SpellsSchedule}
use Rattle.trace_semantics.specs.declared.operation.OpName.{OpName}
use Rattle.trace_semantics.specs.Legal.{IsLegal, HasNoSchedule}
use Rattle.trace_semantics.specs.Trace.{TraceValue, IsTrace}
use Rattle.trace_text.specs.TraceFault.{HasTraceFault}
use Rattle.trace_text.specs.TraceText.{SpellsTrace}
use Rattle.trace_decision.specs.declared.decision.Decision.{Decision}
use Rattle.trace_decision.specs.declared.decision.Decision.TheVariants.{Consistent, Inconsistent, Unknown as NotDecided}
use Rattle.trace_decision.specs.InCube.{HoldSchedules}
use Rattle.trace_decision.specs.Decision.{AreLeftOpen, HoldModels, IsDecided, certificate_text, report}
use Rattle.verdict_report.specs.declared.fault.Fault.{Fault}
use Rattle.verdict_report.specs.declared.fault.Fault.TheVariants.{OutOfMemory, Trace, Reduce, Search}
use Rattle.verdict_report.specs.declared.status.Status.{Status}
use Rattle.verdict_report.specs.declared.status.Status.TheVariants.{Yes, No, Unknown}
use Rattle.verdict_report.specs.Admitted.{Admits, IsTooLarge}
use Rattle.verdict_report.specs.Engine.{AtOnce, InPieces, IsRunOfEngine, of_one}
use Rattle.verdict_report.specs.Runs.{SourceRun, SinkRun, HandsOut}
use Rattle.trace_semantics.specs.ScheduleLimits.{limits_for}

-- the text spells an admitted trace, of which this is decided; cubes that are left open are some that a search with these options can leave open
pub record IsDecidedFrom (options : OptionsValue) (text : List ℕ) (decision : Decision) : Type 0 where
  pub value : TraceValue
  pub admitted : Admits text value
  pub decided : IsDecided options value decision

-- what is said of the text: what is decided of its trace, by some search, or why nothing is; a search that has no results refuses no other texts
abbrev pub IsSaidOfTrace : List ℕ → Result Decision Fault → Type 0
IsSaidOfTrace text (Ok decision) = (options : OptionsValue) × IsDecidedFrom options text decision
IsSaidOfTrace text (Err OutOfMemory) = ⊤
IsSaidOfTrace text (Err (Trace cause line)) = HasTraceFault text cause line
IsSaidOfTrace text (Err (Reduce StillTooLarge left)) = IsTooLarge text left
IsSaidOfTrace text (Err (Search cause)) = (value : TraceValue) × Admits text value
IsSaidOfTrace text (Err fault) = ⊥

-- the status that goes with a decision
abbrev pub status_of_decision : Decision → Status
status_of_decision (Consistent names) = Yes
status_of_decision (Inconsistent refutation) = No
status_of_decision (NotDecided cubes) = Unknown

-- the texts that are written: the report alone
abbrev pub texts_of_decision : Decision → List (List ℕ)
texts_of_decision decision = report decision ∷ []

-- the texts that are written where a certificate is asked for: first that, and then the report
abbrev pub texts_with_certificate : Decision → List (List ℕ)
texts_with_certificate decision = certificate_text decision ∷ report decision ∷ []

-- what the engine answers, by what the source hands out and the sink takes
abbrev pub IsRunOfVerify : SourceRun → SinkRun → Result Status Fault → Type 0
IsRunOfVerify trace out = IsRunOfEngine AtOnce (of_one IsSaidOfTrace) texts_of_decision status_of_decision (trace ∷ []) (out ∷ [])

-- the same where a certificate is asked for, by what the source hands out and the sinks take: the certificate's, and then the report's
abbrev pub IsRunOfCertifiedVerify : SourceRun → SinkRun → SinkRun → Result Status Fault → Type 0
IsRunOfCertifiedVerify trace cert out = IsRunOfEngine InPieces (of_one IsSaidOfTrace) texts_with_certificate status_of_decision (trace ∷ []) (cert ∷ out ∷ [])

-- the source handed out the text of a trace, and the sink took CONSISTENT as a line and then a text that spells a legal schedule of
-- this trace
pub record ReportsLegalSchedule (trace : SourceRun) (out : SinkRun) : Type 0 where
  pub text : List ℕ
  pub handed : HandsOut trace text
  pub value : TraceValue
  pub is_trace : IsTrace value
  pub spelled : SpellsTrace text value
  pub schedule : List ℕ
  pub whole : out.now ≡ out.before ++ (codes "CONSISTENT\n" ++ schedule)
  pub names : List OpName
  pub told : SpellsSchedule (limits_for value) schedule names
  pub legal : IsLegal value names

-- the source handed out the text of a trace, and the sink took the report of cubes that a search with these options can leave open; each
-- legal schedule of the trace, restricted to the operations that are kept, is in one of them, and so are all models of the clauses
pub record TellsOpen (options : OptionsValue) (trace : SourceRun) (out : SinkRun) : Type 0 where
  pub text : List ℕ
  pub handed : HandsOut trace text
  pub value : TraceValue
  pub admitted : Admits text value
  pub cubes : List (List ℤ)
  pub whole : out.now ≡ out.before ++ report (NotDecided cubes)
  pub left_open : AreLeftOpen (kept_trace value) options cubes
  pub models : HoldModels (clauses_of (kept_trace value)) cubes
  pub schedules : HoldSchedules value cubes

-- the source handed out the text of a trace that has no legal schedule, and the sink took that of a certificate, which is accepted for
-- the clauses of what is kept of the trace
pub record WritesAcceptedCertificate (trace : SourceRun) (cert : SinkRun) : Type 0 where
  pub text : List ℕ
  pub handed : HandsOut trace text
  pub value : TraceValue
  pub admitted : Admits text value
  pub written : List ℕ
  pub whole : cert.now ≡ cert.before ++ written
  pub certificate : Certificate
  pub spelled : SpellsCertificate written certificate
  pub count : ℕ
  pub accepted : IsRechecked (clauses_of (kept_trace value)) certificate count
  pub none_legal : HasNoSchedule value
