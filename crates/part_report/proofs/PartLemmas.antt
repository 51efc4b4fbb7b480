-- Parts of traces: if a part has no schedule, the trace has none; and what is said where the texts are refused.
use Rattle.std.proofs.Common.{ℕ, List, Bool, subst, sym}
use Rattle.std.specs.Prelude.{Result, Ok, Err, OnOk}
use Rattle.text_lines.specs.Fault.{IsRefusal}
use Rattle.text_lines.specs.declared.fault.PlacedFault.{PlacedFault as PartFault}
use Rattle.text_lines.specs.declared.fault.PlacedFault.TheVariants.{OutOfMemory as NoPartMemory, At}
use Rattle.trace_semantics.specs.declared.operation.OpName.{OpName}
use Rattle.trace_semantics.specs.Judgement.{has_come}
use Rattle.trace_semantics.specs.Legal.{IsLegal, HasNoSchedule}
use Rattle.trace_semantics.specs.Trace.{TraceValue, IsTrace}
use Rattle.trace_text.specs.TraceText.{SpellsTrace}
use Rattle.schedule_text.specs.ScheduleText.{SpellsSchedule, HasScheduleFault}
use Rattle.schedule_text.specs.declared.schedule_fault.ScheduleCause.{ScheduleCause}
use Rattle.forced_order.proofs.ForcedLemmas.{forced_before}
use Rattle.restriction.specs.Left.{restricted}
use Rattle.part_law.specs.Part.{stays}
use Rattle.part_law.proofs.PartLemmas.{restriction_legal}
use Rattle.part_law.proofs.TraceLemmas.{part_is_trace}
use Rattle.trace_part.specs.TraceParts.{PartValue, IsPart}
use Rattle.trace_part.specs.declared.part_fault.PartCause.{PartCause}
use Rattle.part_text.specs.NameLine.{HasChoiceFault}
use Rattle.part_text.specs.PartText.{part_text}
use Rattle.part_text.proofs.PartTextLemmas.{text_spells}
use Rattle.verdict_report.specs.declared.fault.Fault.{Fault}
use Rattle.verdict_report.specs.declared.fault.Fault.TheVariants.{Schedule, Part}
use Rattle.verdict_report.specs.declared.status.Status.{Status}
use Rattle.verdict_report.specs.Engine.{IsRunOfWriting}
use Rattle.verdict_report.specs.Fault.{fault_of_part}
use Rattle.part_report.specs.PartEngine.{IsSaidOfChoice, MakeUp, WritesPart, part_status}
use Rattle.verdict_report.specs.Runs.{SourceRun, SinkRun, HandsOut}
use Rattle.trace_semantics.specs.ScheduleLimits.{limits_for}

pub whole_refuted : (t : TraceValue) → IsTrace t → (names : List OpName) (made : PartValue) → IsPart t names made → HasNoSchedule made.trace → HasNoSchedule t
whole_refuted t ok names made is_part none schedule legal =
    let left = restriction_legal t ok is_part.ordered (has_come names) schedule legal (λ m n h k o. forced_before t schedule m n legal.interleaving (is_part.forced.within m n h k o)) in
    none (restricted (stays t is_part.ordered (has_come names)) schedule) (subst (λ q. IsLegal q (restricted (stays t is_part.ordered (has_come names)) schedule)) (sym is_part.trace_is) left)

module _ (trace_text names_text : List ℕ) (value : TraceValue) (is_trace : IsTrace value) (spelled : SpellsTrace trace_text value) where
  -- the names' text has a fault
  pub unlisted : (fault : PartFault ScheduleCause) → IsRefusal (HasScheduleFault (limits_for value) names_text) fault → IsSaidOfChoice trace_text names_text (Err (fault_of_part Schedule fault))
  unlisted NoPartMemory refusal = tt
  unlisted (At cause line) refusal = record { value = value; is_trace = is_trace; spelled = spelled; faulty = refusal }

  module _ (names : List OpName) (listed : SpellsSchedule (limits_for value) names_text names) where
    -- the names are no choice of operations of the trace
    pub unchosen : (fault : PartFault PartCause) → IsRefusal (HasChoiceFault value names names_text) fault → IsSaidOfChoice trace_text names_text (Err (fault_of_part Part fault))
    unchosen NoPartMemory refusal = tt
    unchosen (At cause line) refusal = record { value = value; is_trace = is_trace; spelled = spelled; names = names; listed = listed; faulty = refusal }

    pub chosen : (made : PartValue) → IsPart value names made → IsSaidOfChoice trace_text names_text (Ok made)
    chosen made is_part = record { value = value; is_trace = is_trace; spelled = spelled; names = names; listed = listed; is_part = is_part }

-- a part that is written
pub shown : (shows_names : Bool) (trace : SourceRun) (out : SinkRun) (trace_text names_text : List ℕ) (made : PartValue) → HandsOut trace trace_text → MakeUp trace_text names_text made → (result : Result Status Fault) →
    IsRunOfWriting (part_text shows_names made) (part_status made) out result → OnOk result (WritesPart trace out)
shown shows_names trace out trace_text names_text made handed made_up (Ok status) w =
    let is_trace = subst IsTrace (sym made_up.is_part.trace_is) (part_is_trace made_up.value made_up.is_trace made_up.is_part.ordered (has_come made_up.names)) in
    record {
      text = trace_text;
      handed = handed;
      value = made_up.value;
      is_trace = made_up.is_trace;
      spelled = made_up.spelled;
      taken_text = part_text shows_names made;
      taken = w.1.0;
      taken_value = made.trace;
      taken_is_trace = is_trace;
      taken_spelled = text_spells made_up.value made_up.names made shows_names made_up.is_trace made_up.is_part;
      no_schedule = whole_refuted made_up.value made_up.is_trace made_up.names made made_up.is_part;
    }
shown shows_names trace out trace_text names_text made handed made_up (Err fault) w = tt
