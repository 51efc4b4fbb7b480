-- What is decided of a trace with the help of a survey.
use Rattle.std.specs.Prelude.{◌≡◌, ◌⊎◌, ◌≤◌, ℕ, ℤ, true, List, [], ◌++◌, Option, Some, None, length, codes, decimal, nat_le, if◌then◌else◌}
use Rattle.std.specs.List.{filter}
use Rattle.certificate.specs.CertText.{SpellsCertificate}
use Rattle.certificate.specs.CertWritten.{canonical_certificate}
use Rattle.certificate.specs.Rechecked.{IsRechecked}
use Rattle.certificate.specs.declared.certificate.Certificate.{Certificate}
use Rattle.clause_blocks.specs.Clauses.{clauses_of}
use Rattle.cube_jobs.specs.Options.{OptionsValue}
use Rattle.cube_tree.specs.CubeTree.{leaves}
use Rattle.part_text.specs.PartText.{part_text}
use Rattle.reducer.specs.Reduced.{HasReduceFault, IsReduced, ReducedValue}
use Rattle.reducer.specs.Reduction.{kept_trace}
use Rattle.reducer.specs.declared.reduce_fault.ReduceCause.{ReduceCause}
use Rattle.reason_check.specs.Accepted.{IsAcceptedReasons}
use Rattle.schedule_text.specs.ScheduleWritten.{canonical_schedule}
use Rattle.surveyor.specs.declared.Extent.{Extent}
use Rattle.trace_semantics.specs.declared.operation.OpName.{OpName}
use Rattle.trace_semantics.specs.Judgement.{has_come}
use Rattle.trace_semantics.specs.Legal.{HasNoSchedule, IsLegal}
use Rattle.trace_semantics.specs.Trace.{TraceValue, operation_count, operation_names}
use Rattle.trace_part.specs.TraceParts.{PartValue, IsPart}
use Rattle.trace_decision.specs.declared.decision.Decision.{Decision}
use Rattle.trace_decision.specs.declared.decision.Decision.TheVariants.{Consistent, Inconsistent, Unknown}
use Rattle.trace_decision.specs.declared.refutation.Refutation.{Refutation}
use Rattle.trace_decision.specs.Decision.{IsDecided, certificate_in, certificate_text, report}
use Rattle.survey_verdict.specs.Named.{named_in}
use Rattle.survey_verdict.specs.declared.surveyed.ReasonCertificate.{ReasonCertificate}
use Rattle.survey_verdict.specs.declared.surveyed.RefutedCore.{RefutedCore}
use Rattle.survey_verdict.specs.declared.surveyed.Surveyed.{Surveyed}
use Rattle.survey_verdict.specs.declared.surveyed.Surveyed.TheVariants.{Decided, Reasoned, Refuted, Undecided}

-- more operations are left of the trace than a search takes
abbrev pub IsTooLong : TraceValue → Type 0
IsTooLong t = (cause : ReduceCause) × (left : ℕ) × HasReduceFault t cause left

-- the trace without its repeated local reads, or that too many operations are left
abbrev pub IsReducedIfSmall : TraceValue → Option ReducedValue → Type 0
IsReducedIfSmall t (Some reduced) = IsReduced reduced × (reduced.whole ≡ t)
IsReducedIfSmall t None = IsTooLong t

-- A search with these options need not refute the trace: more operations are left of it than a search takes, or it has a legal schedule, or
-- such a search can leave cubes open. No search is bound to find what there is, so this is true of each trace, and says only what code that
-- shows it has asked for.
abbrev pub IsNotRefuted : OptionsValue → TraceValue → Type 0
IsNotRefuted options t = IsTooLong t ⊎ (((schedule : List OpName) × IsLegal t schedule) ⊎ ((cubes : List (List ℤ)) × IsDecided options t (Unknown cubes)))

-- what a search of the trace with these options decides, if no more than 160 operations are left of it, or that more are
abbrev pub IsDecidedIfShort : OptionsValue → TraceValue → Option Decision → Type 0
IsDecidedIfShort options t (Some decision) = IsDecided options t decision × (operation_count (kept_trace t) ≤ 160)
IsDecidedIfShort options t None = IsTooLong t

-- what refutes the trace, if that is what was decided
abbrev pub refutation_in : Decision → Option Refutation
refutation_in (Consistent schedule) = None
refutation_in (Inconsistent refutation) = Some refutation
refutation_in (Unknown cubes) = None

-- what refutes the trace, of which no more than 160 operations are left, or that a search with these options need not refute it
abbrev pub IsRefutedIfShort : OptionsValue → TraceValue → Option Refutation → Type 0
IsRefutedIfShort options t (Some refutation) = IsDecided options t (Inconsistent refutation) × (operation_count (kept_trace t) ≤ 160)
IsRefutedIfShort options t None = IsNotRefuted options t

-- those of the trace's operations that are among these, in the order of the trace: by process and place
abbrev pub core_of : TraceValue → List OpName → List OpName
core_of t found = filter (has_come found) (operation_names t)

-- The names of the core are those of operations of the trace, in the trace's order. The part is the one that they make up, no more than 160
-- operations are left of it, and the refutation shows that it has no legal schedule. So the trace has none.
pub record IsRefutedCore (options : OptionsValue) (t : TraceValue) (core : RefutedCore) : Type 0 where
  pub in_order : core.names ≡ core_of t core.names
  pub is_part : IsPart t core.names core.part
  pub few_left : operation_count (kept_trace core.part.trace) ≤ 160
  pub refuted : IsDecided options core.part.trace (Inconsistent core.refutation)
  pub none_legal : HasNoSchedule t

-- the names make up a part that a search with these options need not refute
abbrev pub IsUnrefutedChoice : OptionsValue → TraceValue → List OpName → Type 0
IsUnrefutedChoice options t names = (p : PartValue) × IsPart t names p × IsNotRefuted options p.trace

-- the core of these names, or that the part which they make up need not be refuted
abbrev pub IsRefutedChoice : OptionsValue → TraceValue → List OpName → Option RefutedCore → Type 0
IsRefutedChoice options t names (Some core) = (core.names ≡ names) × IsRefutedCore options t core
IsRefutedChoice options t names None = IsUnrefutedChoice options t names

-- these names, or none if they are more than 64
abbrev pub if_few : List OpName → List OpName
if_few names = if nat_le (length names) 64 then names else []

-- The text is a certificate of reasons that is accepted of the trace, of this number of clauses, so that the trace has no legal schedule.
-- The number of operations is that of those which its lines name, and the names are theirs, in the trace's order, or none if they are more
-- than 64.
pub record IsReasoned (t : TraceValue) (reasons : ReasonCertificate) : Type 0 where
  pub counted : reasons.operations ≡ length (named_in t reasons.text.items)
  pub named : reasons.names ≡ if_few (named_in t reasons.text.items)
  pub accepted : IsAcceptedReasons t reasons.text.items reasons.clauses
  pub none_legal : HasNoSchedule t

-- a search of the whole trace need not decide it: too many operations are left, or a search with these options can leave cubes open; this is
-- true of each trace too
abbrev pub IsLeftOpen : OptionsValue → TraceValue → Type 0
IsLeftOpen options t = IsTooLong t ⊎ ((cubes : List (List ℤ)) × IsDecided options t (Unknown cubes))

-- What is decided is so: it is a legal schedule of the whole trace; or the part of the core is refuted, and the trace has no legal schedule; or
-- a certificate of reasons is accepted of the trace, and it has none; or the whole trace is refuted, of which no more than 160 operations are
-- left, and a search with these options need not refute the part of all its operations; or nothing is said, a search of the whole trace need not
-- say more, and no more operations are said to be placed
-- than it has.
abbrev pub IsSurveyed : OptionsValue → TraceValue → Surveyed → Type 0
IsSurveyed options t (Decided (Consistent schedule)) = IsLegal t schedule
IsSurveyed options t (Decided (Inconsistent refutation)) = IsDecided options t (Inconsistent refutation) × IsUnrefutedChoice options t (operation_names t) × (operation_count (kept_trace t) ≤ 160)
IsSurveyed options t (Decided (Unknown cubes)) = ⊥
IsSurveyed options t (Refuted core) = IsRefutedCore options t core
IsSurveyed options t (Reasoned reasons) = IsReasoned t reasons
IsSurveyed options t (Undecided extent) = IsLeftOpen options t × (extent.placed ≤ operation_count t)

-- the line of a core of this many operations, of which a tree of this many cubes is refuted
abbrev pub core_line : ℕ → ℕ → List ℕ
core_line operations cubes = codes "INCONSISTENT operations=" ++ (decimal operations ++ (codes " cubes=" ++ (decimal cubes ++ codes "\n")))

-- the report of a core: its line, and its names, one a line
abbrev pub core_report : RefutedCore → List ℕ
core_report core = core_line (length core.names) (leaves core.refutation.tree) ++ canonical_schedule core.names

-- the line of a certificate of reasons that names this many operations, and of which the lines make this many clauses
abbrev pub reasons_line : ℕ → ℕ → List ℕ
reasons_line operations clauses = codes "INCONSISTENT operations=" ++ (decimal operations ++ (codes " reasons=" ++ (decimal clauses ++ codes "\n")))

-- the report of a certificate of reasons: its line, and the names of the operations, one a line
abbrev pub reasons_report : ReasonCertificate → List ℕ
reasons_report reasons = reasons_line reasons.operations reasons.clauses ++ canonical_schedule reasons.names

-- the line that says how far a survey came that shows nothing
abbrev pub extent_line : Extent → List ℕ
extent_line extent = codes "UNKNOWN placed=" ++ (decimal extent.placed ++ (codes " undecided=" ++ (decimal extent.undecided ++ codes "\n")))

-- the report of what is decided
abbrev pub survey_report : Surveyed → List ℕ
survey_report (Decided decision) = report decision
survey_report (Refuted core) = core_report core
survey_report (Reasoned reasons) = reasons_report reasons
survey_report (Undecided extent) = extent_line extent

-- the certificate: that of the whole trace, or of the core's part, or the one of reasons; and else nothing
abbrev pub survey_certificate : Surveyed → List ℕ
survey_certificate (Decided decision) = certificate_text decision
survey_certificate (Refuted core) = canonical_certificate (certificate_in core.refutation)
survey_certificate (Reasoned reasons) = reasons.text.items
survey_certificate (Undecided extent) = []

-- the names of the core, one a line, and else nothing
abbrev pub core_names : Surveyed → List ℕ
core_names (Decided decision) = []
core_names (Refuted core) = canonical_schedule core.names
core_names (Reasoned reasons) = []
core_names (Undecided extent) = []

-- the part that the core makes up, as a trace's text with the names of its operations in the whole, and else nothing
abbrev pub core_part : Surveyed → List ℕ
core_part (Decided decision) = []
core_part (Refuted core) = part_text true core.part
core_part (Reasoned reasons) = []
core_part (Undecided extent) = []

-- the text spells a certificate, which is accepted for the clauses of what is kept of the trace
pub record IsCertificateFor (t : TraceValue) (text : List ℕ) : Type 0 where
  pub certificate : Certificate
  pub spelled : SpellsCertificate text certificate
  pub count : ℕ
  pub accepted : IsRechecked (clauses_of (kept_trace t)) certificate count
