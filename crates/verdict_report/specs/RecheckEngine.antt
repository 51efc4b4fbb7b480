-- What the engine that checks certificates answers and writes.
use Rattle.std.specs.Prelude.{◌≡◌, ◌⊎◌, ⊤, ℕ, true, false, List, [], ◌∷◌, ◌++◌, codes, decimal, Result, Ok, Err}
use Rattle.std.specs.Bool.{MatchBool}
use Rattle.certificate.specs.CertFaults.{HasCertFault}
use Rattle.certificate.specs.CertText.{SpellsCertificate}
use Rattle.certificate.specs.Rechecked.{IsRechecked, HasRecheckFault}
use Rattle.certificate.specs.declared.cert_fault.CertCause.{CertCause}
use Rattle.certificate.specs.declared.certificate.Certificate.{Certificate}
use Rattle.clause_blocks.specs.Clauses.{clauses_of}
use Rattle.reason_check.specs.Accepted.{IsAcceptedReasons}
use Rattle.reason_check.specs.Refused.{IsRefusedReasons}
use Rattle.reason_check.specs.declared.reasons_fault.ReasonsFault.{ReasonsFault}
use Rattle.reason_check.specs.declared.reasons_fault.ReasonsFault.TheVariants.{Line, Lrat as BadText, Step}
use Rattle.reason_text.specs.Header.{begins_reasons}
use Rattle.reducer.specs.Reduced.{ReducedValue}
use Rattle.reducer.specs.Reduction.{kept_trace}
use Rattle.reducer.specs.declared.reduce_fault.ReduceCause.TheVariants.{StillTooLarge}
use Rattle.trace_semantics.specs.Legal.{HasNoSchedule}
use Rattle.trace_semantics.specs.Trace.{TraceValue, IsTrace}
use Rattle.trace_text.specs.TraceFault.{HasTraceFault}
use Rattle.trace_text.specs.TraceText.{SpellsTrace}
use Rattle.verdict_report.specs.declared.fault.Fault.{Fault}
use Rattle.verdict_report.specs.declared.fault.Fault.TheVariants.{OutOfMemory, Trace, Cert, Reduce, Lrat, Check, Reasons}
use Rattle.verdict_report.specs.declared.recheck_engine.CertificateSize.{CertificateSize}
use Rattle.verdict_report.specs.declared.recheck_engine.CertificateSize.TheVariants.{Cubes, Clauses}
use Rattle.verdict_report.specs.declared.status.Status.{Status}
use Rattle.verdict_report.specs.declared.status.Status.TheVariants.{Yes}
use Rattle.verdict_report.specs.Admitted.{Admits, IsTooLarge}
use Rattle.verdict_report.specs.Engine.{AtOnce, IsRunOfEngine, of_two}
use Rattle.verdict_report.specs.Runs.{SourceRun, SinkRun, HandsOut}

-- The certificate, of this number of cubes, is accepted for the clause list of what is kept of the trace. So the whole trace has no legal
-- schedule.
pub record Refutes (certificate : Certificate) (value : TraceValue) (count : ℕ) : Type 0 where
  pub rechecked : IsRechecked (clauses_of (kept_trace value)) certificate count
  pub no_schedule : HasNoSchedule value

-- of how many cubes a certificate refutes a reduced trace, or why it does not
abbrev pub IsRecheckedFor : ReducedValue → Certificate → Result ℕ Fault → Type 0
IsRecheckedFor reduced certificate (Ok count) = Refutes certificate reduced.whole count
IsRecheckedFor reduced certificate (Err OutOfMemory) = ⊤
IsRecheckedFor reduced certificate (Err (Cert cause leaf)) = HasRecheckFault (clauses_of (kept_trace reduced.whole)) certificate cause leaf
IsRecheckedFor reduced certificate (Err fault) = ⊥

-- the texts spell an admitted trace and a certificate that refutes it
pub record AreRechecked (trace_text cert_text : List ℕ) (count : ℕ) : Type 0 where
  pub value : TraceValue
  pub admitted : Admits trace_text value
  pub certificate : Certificate
  pub spelled : SpellsCertificate cert_text certificate
  pub refuted : Refutes certificate value count

-- the first text spells a trace, and the second one has this first fault
pub record HasFaultyCertificate (trace_text cert_text : List ℕ) (cause : CertCause) (line : ℕ) : Type 0 where
  pub value : TraceValue
  pub is_trace : IsTrace value
  pub spelled : SpellsTrace trace_text value
  pub faulty : HasCertFault cert_text cause line

-- the first text spells a trace of which too many operations are left, and the second one spells a certificate
pub record HasTooLargeBehind (trace_text cert_text : List ℕ) (left : ℕ) : Type 0 where
  pub large : IsTooLarge trace_text left
  pub certificate : Certificate
  pub spelled : SpellsCertificate cert_text certificate

-- the texts spell an admitted trace and a certificate that is refused for this cause and this leaf
pub record AreNotRechecked (trace_text cert_text : List ℕ) (cause : CertCause) (leaf : ℕ) : Type 0 where
  pub value : TraceValue
  pub admitted : Admits trace_text value
  pub certificate : Certificate
  pub spelled : SpellsCertificate cert_text certificate
  pub refused : HasRecheckFault (clauses_of (kept_trace value)) certificate cause leaf

-- what is said of two texts: of how many cubes the certificate is, or why the trace or the certificate is refused
abbrev pub IsSaidOfCertificate : List ℕ → List ℕ → Result ℕ Fault → Type 0
IsSaidOfCertificate trace_text cert_text (Ok count) = AreRechecked trace_text cert_text count
IsSaidOfCertificate trace_text cert_text (Err OutOfMemory) = ⊤
IsSaidOfCertificate trace_text cert_text (Err (Trace cause line)) = HasTraceFault trace_text cause line
IsSaidOfCertificate trace_text cert_text (Err (Cert cause place)) =
    HasFaultyCertificate trace_text cert_text cause place ⊎ AreNotRechecked trace_text cert_text cause place
IsSaidOfCertificate trace_text cert_text (Err (Reduce StillTooLarge left)) = HasTooLargeBehind trace_text cert_text left
IsSaidOfCertificate trace_text cert_text (Err fault) = ⊥

-- the line that is written
abbrev pub rechecked_line : ℕ → List ℕ
rechecked_line count = codes "ACCEPTED cubes=" ++ (decimal count ++ codes "\n")

abbrev pub rechecked_status : ℕ → Status
rechecked_status count = Yes

-- the first text spells a trace, for which the second, a certificate of reasons, is refused for this fault
pub record AreRefusedReasons (trace_text cert_text : List ℕ) (fault : ReasonsFault) : Type 0 where
  pub value : TraceValue
  pub is_trace : IsTrace value
  pub spelled : SpellsTrace trace_text value
  pub refused : IsRefusedReasons value cert_text fault

-- the first text spells a trace, of which the second, a certificate of reasons of this many clauses, is accepted; so the trace has no legal
-- schedule
pub record AreRefutedByReasons (trace_text cert_text : List ℕ) (count : ℕ) : Type 0 where
  pub value : TraceValue
  pub is_trace : IsTrace value
  pub spelled : SpellsTrace trace_text value
  pub accepted : IsAcceptedReasons value cert_text count
  pub no_schedule : HasNoSchedule value

-- What is said of a trace's text and a certificate of reasons, if it is accepted, or the trace or the certificate is refused. A trace may have
-- any length.
abbrev pub IsSaidOfReasons : List ℕ → List ℕ → Result ℕ Fault → Type 0
IsSaidOfReasons trace_text cert_text (Ok count) = AreRefutedByReasons trace_text cert_text count
IsSaidOfReasons trace_text cert_text (Err OutOfMemory) = ⊤
IsSaidOfReasons trace_text cert_text (Err (Trace cause line)) = HasTraceFault trace_text cause line
IsSaidOfReasons trace_text cert_text (Err (Reasons cause line)) = AreRefusedReasons trace_text cert_text (Line cause line)
IsSaidOfReasons trace_text cert_text (Err (Lrat cause line)) = AreRefusedReasons trace_text cert_text (BadText cause line)
IsSaidOfReasons trace_text cert_text (Err (Check fault step)) = AreRefusedReasons trace_text cert_text (Step fault step)
IsSaidOfReasons trace_text cert_text (Err fault) = ⊥

-- what is said of a trace and a certificate, which has reasons if its first line is their header, and else a tree
abbrev pub IsSaidOfEither : List ℕ → List ℕ → Result CertificateSize Fault → Type 0
IsSaidOfEither trace_text cert_text (Ok (Cubes count)) = (begins_reasons cert_text ≡ false) × IsSaidOfCertificate trace_text cert_text (Ok count)
IsSaidOfEither trace_text cert_text (Ok (Clauses count)) = (begins_reasons cert_text ≡ true) × IsSaidOfReasons trace_text cert_text (Ok count)
IsSaidOfEither trace_text cert_text (Err fault) =
    MatchBool (begins_reasons cert_text) (IsSaidOfReasons trace_text cert_text (Err fault)) (IsSaidOfCertificate trace_text cert_text (Err fault))

-- the line of a certificate of reasons
abbrev pub clauses_line : ℕ → List ℕ
clauses_line count = codes "ACCEPTED clauses=" ++ (decimal count ++ codes "\n")

abbrev pub size_line : CertificateSize → List ℕ
size_line (Cubes count) = rechecked_line count
size_line (Clauses count) = clauses_line count

abbrev pub size_status : CertificateSize → Status
size_status size = Yes

-- what the engine answers, by what the sources hand out and the sink takes
abbrev pub IsRunOfRecheck : SourceRun → SourceRun → SinkRun → Result Status Fault → Type 0
IsRunOfRecheck trace cert out =
    IsRunOfEngine AtOnce (of_two IsSaidOfEither) (λ size. size_line size ∷ []) size_status (trace ∷ cert ∷ []) (out ∷ [])

-- the source handed out the text of a trace that has no legal schedule
pub record InputHasNoLegalSchedule (trace : SourceRun) : Type 0 where
  pub text : List ℕ
  pub handed : HandsOut trace text
  pub value : TraceValue
  pub is_trace : IsTrace value
  pub spelled : SpellsTrace text value
  pub no_schedule : HasNoSchedule value
