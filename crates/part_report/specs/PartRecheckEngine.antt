-- What the engine that checks certificates of parts answers and writes.
use Rattle.std.specs.Prelude.{⊤, ◌⊎◌, ℕ, List, [], ◌∷◌, Result, Ok, Err}
use Rattle.certificate.specs.CertText.{SpellsCertificate}
use Rattle.certificate.specs.Rechecked.{IsRechecked, HasRecheckFault}
use Rattle.certificate.specs.declared.cert_fault.CertCause.{CertCause}
use Rattle.certificate.specs.declared.certificate.Certificate.{Certificate}
use Rattle.clause_blocks.specs.Clauses.{clauses_of}
use Rattle.reducer.specs.Reduced.{HasReduceFault}
use Rattle.reducer.specs.Reduction.{kept_trace}
use Rattle.reducer.specs.declared.reduce_fault.ReduceCause.{ReduceCause}
use Rattle.trace_semantics.specs.Legal.{HasNoSchedule}
use Rattle.trace_text.specs.TraceFault.{HasTraceFault}
use Rattle.trace_part.specs.TraceParts.{PartValue}
use Rattle.verdict_report.specs.declared.fault.Fault.{Fault}
use Rattle.verdict_report.specs.declared.fault.Fault.TheVariants.{OutOfMemory, Trace, Schedule, Part, Cert, Reduce}
use Rattle.verdict_report.specs.declared.status.Status.{Status}
use Rattle.verdict_report.specs.Engine.{AtOnce, IsRunOfEngine, of_three}
use Rattle.verdict_report.specs.JudgeEngine.{HasFaultySchedule}
use Rattle.part_report.specs.PartEngine.{MakeUp, HasFaultyChoice}
use Rattle.verdict_report.specs.RecheckEngine.{HasFaultyCertificate, rechecked_line, rechecked_status}
use Rattle.verdict_report.specs.Runs.{SourceRun, SinkRun}

-- The texts spell a trace, a certificate of this number of cubes, and names of operations; the certificate is accepted for the clause list
-- of what is kept of the part that they make up. So the whole trace has no legal schedule.
pub record AreRecheckedByPart (trace_text cert_text names_text : List ℕ) (count : ℕ) : Type 0 where
  pub certificate : Certificate
  pub spelled : SpellsCertificate cert_text certificate
  pub made : PartValue
  pub made_up : MakeUp trace_text names_text made
  pub rechecked : IsRechecked (clauses_of (kept_trace made.trace)) certificate count
  pub no_schedule : HasNoSchedule made_up.value

-- the texts spell these, and the certificate is refused for the part, for this cause and this leaf
pub record AreNotRecheckedByPart (trace_text cert_text names_text : List ℕ) (cause : CertCause) (leaf : ℕ) : Type 0 where
  pub certificate : Certificate
  pub spelled : SpellsCertificate cert_text certificate
  pub made : PartValue
  pub made_up : MakeUp trace_text names_text made
  pub refused : HasRecheckFault (clauses_of (kept_trace made.trace)) certificate cause leaf

-- the texts spell these, and the part is not reduced for this cause, and this number of operations is left
pub record HasUnreducedPart (trace_text cert_text names_text : List ℕ) (cause : ReduceCause) (left : ℕ) : Type 0 where
  pub certificate : Certificate
  pub spelled : SpellsCertificate cert_text certificate
  pub made : PartValue
  pub made_up : MakeUp trace_text names_text made
  pub refused : HasReduceFault made.trace cause left

-- the text spells a certificate
abbrev pub IsReadable : List ℕ → Type 0
IsReadable cert_text = (certificate : Certificate) × SpellsCertificate cert_text certificate

-- what is said of three texts: of how many cubes the certificate is, or why the trace, the certificate, the names or the part is refused
abbrev pub IsSaidByPart : List ℕ → List ℕ → List ℕ → Result ℕ Fault → Type 0
IsSaidByPart trace_text cert_text names_text (Ok count) = AreRecheckedByPart trace_text cert_text names_text count
IsSaidByPart trace_text cert_text names_text (Err OutOfMemory) = ⊤
IsSaidByPart trace_text cert_text names_text (Err (Trace cause line)) = HasTraceFault trace_text cause line
IsSaidByPart trace_text cert_text names_text (Err (Cert cause place)) =
    HasFaultyCertificate trace_text cert_text cause place ⊎ AreNotRecheckedByPart trace_text cert_text names_text cause place
IsSaidByPart trace_text cert_text names_text (Err (Schedule cause line)) = IsReadable cert_text × HasFaultySchedule trace_text names_text cause line
IsSaidByPart trace_text cert_text names_text (Err (Part cause line)) = IsReadable cert_text × HasFaultyChoice trace_text names_text cause line
IsSaidByPart trace_text cert_text names_text (Err (Reduce cause left)) = HasUnreducedPart trace_text cert_text names_text cause left
IsSaidByPart trace_text cert_text names_text (Err fault) = ⊥

-- what the engine answers, by what the sources hand out and the sink takes
abbrev pub IsRunOfPartRecheck : SourceRun → SourceRun → SourceRun → SinkRun → Result Status Fault → Type 0
IsRunOfPartRecheck trace cert names out =
    IsRunOfEngine AtOnce (of_three IsSaidByPart) (λ count. rechecked_line count ∷ []) rechecked_status (trace ∷ cert ∷ names ∷ []) (out ∷ [])
