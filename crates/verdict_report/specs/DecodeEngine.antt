-- What the engine that decodes models answers and writes.
use Rattle.std.specs.Prelude.{◌≡◌, ⊤, ℕ, Bool, List, [], ◌∷◌, Result, Ok, Err}
use Rattle.model_text.specs.declared.model_fault.ModelCause.{ModelCause}
use Rattle.dimacs.specs.Assignment.{value_of}
use Rattle.model_text.specs.ModelFirstFault.{HasModelFault}
use Rattle.model_text.specs.ModelText.{SpellsModel}
use Rattle.dimacs.specs.Models.{IsModel, IsFirstFalse}
use Rattle.trace_semantics.specs.declared.operation.OpName.{OpName}
use Rattle.trace_semantics.specs.Legal.{IsLegal}
use Rattle.trace_semantics.specs.Trace.{TraceValue, IsTrace}
use Rattle.trace_text.specs.TraceFault.{HasTraceFault}
use Rattle.trace_text.specs.TraceText.{SpellsTrace}
use Rattle.schedule_text.specs.ScheduleWritten.{canonical_schedule}
use Rattle.reducer.specs.Expansion.{expansion}
use Rattle.reducer.specs.Reduced.{ReducedValue}
use Rattle.reducer.specs.Reduction.{kept_trace}
use Rattle.clause_blocks.specs.Clauses.{clauses_of}
use Rattle.clause_blocks.specs.ModelOrder.{IsInOrderOf}
use Rattle.reducer.specs.declared.reduce_fault.ReduceCause.TheVariants.{StillTooLarge}
use Rattle.schedule_decode.specs.declared.decode_fault.DecodeCause.TheVariants.{NotAModel}
use Rattle.verdict_report.specs.declared.fault.Fault.{Fault}
use Rattle.verdict_report.specs.declared.fault.Fault.TheVariants.{OutOfMemory, Trace, Model, Reduce, Decode}
use Rattle.verdict_report.specs.declared.status.Status.{Status}
use Rattle.verdict_report.specs.declared.status.Status.TheVariants.{Yes}
use Rattle.verdict_report.specs.Admitted.{Admits, IsTooLarge}
use Rattle.verdict_report.specs.Runs.{SourceRun, SinkRun}
use Rattle.verdict_report.specs.Engine.{AtOnce, IsRunOfEngine, of_two}

-- The truth values are a model of the clause list of what is kept of the trace. The schedule is that of the whole trace in
-- which the kept operations stand in the order of the model, and it is legal.
pub record IsDecoding (value : TraceValue) (truth : List Bool) (schedule : List OpName) : Type 0 where
  pub model : IsModel (value_of truth) (clauses_of (kept_trace value))
  pub kept : List OpName
  pub ordered : IsInOrderOf (value_of truth) (kept_trace value) kept
  pub expanded : schedule ≡ expansion value kept
  pub legal : IsLegal value schedule

-- the schedule of a reduced trace by truth values, or why there is none
abbrev pub IsDecodedFrom : ReducedValue → List Bool → Result (List OpName) Fault → Type 0
IsDecodedFrom reduced truth (Ok schedule) = IsDecoding reduced.whole truth schedule
IsDecodedFrom reduced truth (Err OutOfMemory) = ⊤
IsDecodedFrom reduced truth (Err (Decode NotAModel clause)) = IsFirstFalse (value_of truth) (clauses_of (kept_trace reduced.whole)) clause
IsDecodedFrom reduced truth (Err fault) = ⊥

-- the texts spell an admitted trace and truth values, which decode to the schedule
pub record AreDecoded (trace_text model_text : List ℕ) (schedule : List OpName) : Type 0 where
  pub value : TraceValue
  pub admitted : Admits trace_text value
  pub truth : List Bool
  pub spelled : SpellsModel model_text truth
  pub decoded : IsDecoding value truth schedule

-- the first text spells a trace, and the second one has this first fault
pub record HasFaultyModel (trace_text model_text : List ℕ) (cause : ModelCause) (line : ℕ) : Type 0 where
  pub value : TraceValue
  pub is_trace : IsTrace value
  pub spelled : SpellsTrace trace_text value
  pub faulty : HasModelFault model_text cause line

-- the first text spells a trace of which too many operations are left, and the second one spells truth values
pub record HasTooLarge (trace_text model_text : List ℕ) (left : ℕ) : Type 0 where
  pub large : IsTooLarge trace_text left
  pub truth : List Bool
  pub spelled : SpellsModel model_text truth

-- the texts spell an admitted trace and truth values, which make the clause of this number false and each one before it true
pub record AreNoModel (trace_text model_text : List ℕ) (clause : ℕ) : Type 0 where
  pub value : TraceValue
  pub admitted : Admits trace_text value
  pub truth : List Bool
  pub spelled : SpellsModel model_text truth
  pub first_false : IsFirstFalse (value_of truth) (clauses_of (kept_trace value)) clause

-- what is said of two texts: the schedule, or why there is none
abbrev pub IsSaidOfModel : List ℕ → List ℕ → Result (List OpName) Fault → Type 0
IsSaidOfModel trace_text model_text (Ok schedule) = AreDecoded trace_text model_text schedule
IsSaidOfModel trace_text model_text (Err OutOfMemory) = ⊤
IsSaidOfModel trace_text model_text (Err (Trace cause line)) = HasTraceFault trace_text cause line
IsSaidOfModel trace_text model_text (Err (Model cause line)) = HasFaultyModel trace_text model_text cause line
IsSaidOfModel trace_text model_text (Err (Reduce StillTooLarge left)) = HasTooLarge trace_text model_text left
IsSaidOfModel trace_text model_text (Err (Decode NotAModel clause)) = AreNoModel trace_text model_text clause
IsSaidOfModel trace_text model_text (Err fault) = ⊥

-- a text that is written always goes with this status
abbrev pub written_status : List OpName → Status
written_status schedule = Yes

-- what the engine answers, by what the sources hand out and the sink takes
abbrev pub IsRunOfDecode : SourceRun → SourceRun → SinkRun → Result Status Fault → Type 0
IsRunOfDecode trace model out =
    IsRunOfEngine AtOnce (of_two IsSaidOfModel) (λ schedule. canonical_schedule schedule ∷ []) written_status (trace ∷ model ∷ []) (out ∷ [])
