-- What the engine that makes parts of traces answers and writes.
use Rattle.std.specs.Prelude.{◌≡◌, ⊤, ℕ, Bool, List, [], ◌∷◌, ◌++◌, Result, Ok, Err}
use Rattle.trace_semantics.specs.declared.operation.OpName.{OpName}
use Rattle.trace_semantics.specs.Legal.{HasNoSchedule}
use Rattle.trace_semantics.specs.Trace.{TraceValue, IsTrace}
use Rattle.trace_text.specs.TraceFault.{HasTraceFault}
use Rattle.trace_text.specs.TraceText.{SpellsTrace}
use Rattle.schedule_text.specs.ScheduleText.{SpellsSchedule}
use Rattle.trace_part.specs.TraceParts.{PartValue, IsPart}
use Rattle.trace_part.specs.declared.part_fault.PartCause.{PartCause}
use Rattle.part_text.specs.NameLine.{HasChoiceFault}
use Rattle.part_text.specs.PartText.{part_text}
use Rattle.verdict_report.specs.declared.fault.Fault.{Fault}
use Rattle.verdict_report.specs.declared.fault.Fault.TheVariants.{OutOfMemory, Trace, Schedule, Part}
use Rattle.verdict_report.specs.declared.status.Status.{Status}
use Rattle.verdict_report.specs.declared.status.Status.TheVariants.{Yes}
use Rattle.verdict_report.specs.Engine.{AtOnce, IsRunOfEngine, of_two}
use Rattle.verdict_report.specs.JudgeEngine.{HasFaultySchedule}
use Rattle.verdict_report.specs.Runs.{SourceRun, SinkRun, HandsOut}
use Rattle.trace_semantics.specs.ScheduleLimits.{limits_for}

-- the texts spell a trace and the names of some of its operations, which make up this part
pub record MakeUp (trace_text names_text : List ℕ) (made : PartValue) : Type 0 where
  pub value : TraceValue
  pub is_trace : IsTrace value
  pub spelled : SpellsTrace trace_text value
  pub names : List OpName
  pub listed : SpellsSchedule (limits_for value) names_text names
  pub is_part : IsPart value names made

-- the texts spell a trace and names that make up no part of it: the first that does not is on this line
pub record HasFaultyChoice (trace_text names_text : List ℕ) (cause : PartCause) (line : ℕ) : Type 0 where
  pub value : TraceValue
  pub is_trace : IsTrace value
  pub spelled : SpellsTrace trace_text value
  pub names : List OpName
  pub listed : SpellsSchedule (limits_for value) names_text names
  pub faulty : HasChoiceFault value names names_text cause line

-- what is said of two texts: the part, or why one of them is refused
abbrev pub IsSaidOfChoice : List ℕ → List ℕ → Result PartValue Fault → Type 0
IsSaidOfChoice trace_text names_text (Ok made) = MakeUp trace_text names_text made
IsSaidOfChoice trace_text names_text (Err OutOfMemory) = ⊤
IsSaidOfChoice trace_text names_text (Err (Trace cause line)) = HasTraceFault trace_text cause line
IsSaidOfChoice trace_text names_text (Err (Schedule cause line)) = HasFaultySchedule trace_text names_text cause line
IsSaidOfChoice trace_text names_text (Err (Part cause line)) = HasFaultyChoice trace_text names_text cause line
IsSaidOfChoice trace_text names_text (Err fault) = ⊥

-- a part is written with this status
abbrev pub part_status : PartValue → Status
part_status made = Yes

-- what the engine answers, by what the sources hand out and the sink takes, with the names in the whole or without
abbrev pub IsRunOfPart : Bool → SourceRun → SourceRun → SinkRun → Result Status Fault → Type 0
IsRunOfPart shows_names trace names out =
    IsRunOfEngine AtOnce (of_two IsSaidOfChoice) (λ made. part_text shows_names made ∷ []) part_status (trace ∷ names ∷ []) (out ∷ [])

-- The source handed out the text of a trace, and the sink took that of another. If this one has no legal schedule, the trace has none.
pub record WritesPart (trace : SourceRun) (out : SinkRun) : Type 0 where
  pub text : List ℕ
  pub handed : HandsOut trace text
  pub value : TraceValue
  pub is_trace : IsTrace value
  pub spelled : SpellsTrace text value
  pub taken_text : List ℕ
  pub taken : out.now ≡ out.before ++ taken_text
  pub taken_value : TraceValue
  pub taken_is_trace : IsTrace taken_value
  pub taken_spelled : SpellsTrace taken_text taken_value
  pub no_schedule : HasNoSchedule taken_value → HasNoSchedule value
