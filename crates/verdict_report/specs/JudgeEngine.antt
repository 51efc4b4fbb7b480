-- What the engine that judges schedules answers and writes.
use Rattle.std.specs.Prelude.{⊤, ℕ, List, [], ◌∷◌, ◌++◌, codes, Result, Ok, Err}
use Rattle.trace_semantics.specs.declared.judgement.Judgement.{Judgement}
use Rattle.trace_semantics.specs.declared.operation.OpName.{OpName}
use Rattle.schedule_text.specs.declared.schedule_fault.ScheduleCause.{ScheduleCause}
use Rattle.trace_semantics.specs.Judgement.{IsJudgement}
use Rattle.trace_semantics.specs.JudgementText as judgement_text
use Rattle.schedule_text.specs.ScheduleText.{SpellsSchedule, HasScheduleFault}
use Rattle.trace_semantics.specs.Trace.{TraceValue, IsTrace}
use Rattle.trace_text.specs.TraceFault.{HasTraceFault}
use Rattle.trace_text.specs.TraceText.{SpellsTrace}
use Rattle.verdict_report.specs.declared.fault.Fault.{Fault}
use Rattle.verdict_report.specs.declared.fault.Fault.TheVariants.{OutOfMemory, Trace, Schedule}
use Rattle.verdict_report.specs.declared.status.Status.{Status}
use Rattle.verdict_report.specs.Fault.{status_after}
use Rattle.verdict_report.specs.Runs.{SourceRun, SinkRun}
use Rattle.verdict_report.specs.Engine.{AtOnce, IsRunOfEngine, of_two}
use Rattle.trace_semantics.specs.ScheduleLimits.{limits_for}

-- the texts spell a trace and a schedule, of which this is the judgement
pub record AreJudged (trace_text schedule_text : List ℕ) (judgement : Judgement) : Type 0 where
  pub value : TraceValue
  pub is_trace : IsTrace value
  pub spelled : SpellsTrace trace_text value
  pub names : List OpName
  pub scheduled : SpellsSchedule (limits_for value) schedule_text names
  pub judged : IsJudgement value names judgement

-- the first text spells a trace, and the second one has this first fault
pub record HasFaultySchedule (trace_text schedule_text : List ℕ) (cause : ScheduleCause) (line : ℕ) : Type 0 where
  pub value : TraceValue
  pub is_trace : IsTrace value
  pub spelled : SpellsTrace trace_text value
  pub faulty : HasScheduleFault (limits_for value) schedule_text cause line

-- what is said of two texts: the judgement, or the first fault of the first text that has one
abbrev pub IsSaidOfTexts : List ℕ → List ℕ → Result Judgement Fault → Type 0
IsSaidOfTexts trace_text schedule_text (Ok judgement) = AreJudged trace_text schedule_text judgement
IsSaidOfTexts trace_text schedule_text (Err OutOfMemory) = ⊤
IsSaidOfTexts trace_text schedule_text (Err (Trace cause line)) = HasTraceFault trace_text cause line
IsSaidOfTexts trace_text schedule_text (Err (Schedule cause line)) = HasFaultySchedule trace_text schedule_text cause line
IsSaidOfTexts trace_text schedule_text (Err fault) = ⊥

-- the line of a judgement
abbrev pub judgement_line : Judgement → List ℕ
judgement_line judgement = judgement_text.printed judgement ++ codes "\n"

-- what the engine answers, by what the sources hand out and the sink takes
abbrev pub IsRunOfJudge : SourceRun → SourceRun → SinkRun → Result Status Fault → Type 0
IsRunOfJudge trace schedule out =
    IsRunOfEngine AtOnce (of_two IsSaidOfTexts) (λ judgement. judgement_line judgement ∷ []) status_after (trace ∷ schedule ∷ []) (out ∷ [])
