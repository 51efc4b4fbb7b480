-- A certificate of a part is checked, and shows that the whole trace has no schedule.
use Rattle.std.proofs.Common.{◌≡◌, ℕ, List, subst, inl, inr}
use Rattle.std.specs.Prelude.{Result, Ok, Err, OnOk}
use Rattle.certificate.specs.CertFaults.{HasCertFault}
use Rattle.certificate.specs.CertText.{SpellsCertificate}
use Rattle.certificate.specs.declared.cert_fault.CertCause.{CertCause}
use Rattle.certificate.specs.declared.certificate.Certificate.{Certificate}
use Rattle.reducer.specs.Reduced.{HasReduceFault, ReducedValue}
use Rattle.reducer.specs.declared.reduce_fault.ReduceCause.{ReduceCause}
use Rattle.text_lines.specs.Fault.{IsRefusal}
use Rattle.text_lines.specs.declared.fault.PlacedFault.{PlacedFault as PartFault}
use Rattle.text_lines.specs.declared.fault.PlacedFault.TheVariants.{OutOfMemory as NoPartMemory, At}
use Rattle.trace_semantics.specs.declared.operation.OpName.{OpName}
use Rattle.trace_semantics.specs.Trace.{TraceValue, IsTrace}
use Rattle.trace_text.specs.TraceText.{SpellsTrace}
use Rattle.schedule_text.specs.ScheduleText.{SpellsSchedule, HasScheduleFault}
use Rattle.schedule_text.specs.declared.schedule_fault.ScheduleCause.{ScheduleCause}
use Rattle.trace_part.specs.TraceParts.{PartValue, IsPart}
use Rattle.trace_part.specs.declared.part_fault.PartCause.{PartCause}
use Rattle.part_text.specs.NameLine.{HasChoiceFault}
use Rattle.verdict_report.specs.declared.fault.Fault.{Fault}
use Rattle.verdict_report.specs.declared.fault.Fault.TheVariants.{OutOfMemory, Device, InputTooLong, Trace, Schedule, Part, Model, Cnf, Lrat, Reduce, Decode, Check, Cert, Reasons, Search}
use Rattle.verdict_report.specs.declared.status.Status.{Status}
use Rattle.verdict_report.specs.Fault.{fault_of_part}
use Rattle.part_report.specs.PartRecheckEngine.{AreRecheckedByPart, IsSaidByPart}
use Rattle.verdict_report.specs.RecheckEngine.{IsRecheckedFor, InputHasNoLegalSchedule}
use Rattle.verdict_report.specs.Runs.{SourceRun, HandsOut}
use Rattle.part_report.proofs.PartLemmas.{whole_refuted}
use Rattle.trace_semantics.specs.ScheduleLimits.{limits_for}

module _ (trace_text cert_text names_text : List ℕ) (value : TraceValue) (is_trace : IsTrace value) (spelled : SpellsTrace trace_text value) where
  -- the certificate's text has a fault
  pub unread : (fault : PartFault CertCause) → IsRefusal (HasCertFault cert_text) fault → IsSaidByPart trace_text cert_text names_text (Err (fault_of_part Cert fault))
  unread NoPartMemory refusal = tt
  unread (At cause line) refusal = inl (record { value = value; is_trace = is_trace; spelled = spelled; faulty = refusal })

  module _ (certificate : Certificate) (read : SpellsCertificate cert_text certificate) where
    -- the names' text has a fault
    pub unlisted : (fault : PartFault ScheduleCause) → IsRefusal (HasScheduleFault (limits_for value) names_text) fault → IsSaidByPart trace_text cert_text names_text (Err (fault_of_part Schedule fault))
    unlisted NoPartMemory refusal = tt
    unlisted (At cause line) refusal = ((certificate, read), record { value = value; is_trace = is_trace; spelled = spelled; faulty = refusal })

    module _ (names : List OpName) (listed : SpellsSchedule (limits_for value) names_text names) where
      -- the names are no choice of operations of the trace
      pub unchosen : (fault : PartFault PartCause) → IsRefusal (HasChoiceFault value names names_text) fault → IsSaidByPart trace_text cert_text names_text (Err (fault_of_part Part fault))
      unchosen NoPartMemory refusal = tt
      unchosen (At cause line) refusal = ((certificate, read), record { value = value; is_trace = is_trace; spelled = spelled; names = names; listed = listed; faulty = refusal })

      module _ (made : PartValue) (is_part : IsPart value names made) where
        -- the part is not reduced
        pub unreduced : (fault : PartFault ReduceCause) → IsRefusal (HasReduceFault made.trace) fault → IsSaidByPart trace_text cert_text names_text (Err (fault_of_part Reduce fault))
        unreduced NoPartMemory refusal = tt
        unreduced (At cause left) refusal = record {
          certificate = certificate;
          spelled = read;
          made = made;
          made_up = record { value = value; is_trace = is_trace; spelled = spelled; names = names; listed = listed; is_part = is_part };
          refused = refusal;
        }

        said_of : (r : ReducedValue) → r.whole ≡ made.trace → (result : Result ℕ Fault) → IsRecheckedFor (record { whole = made.trace; kept = r.kept }) certificate result → IsSaidByPart trace_text cert_text names_text result
        said_of r e (Ok count) d = record {
          certificate = certificate;
          spelled = read;
          made = made;
          made_up = record { value = value; is_trace = is_trace; spelled = spelled; names = names; listed = listed; is_part = is_part };
          rechecked = d.rechecked;
          no_schedule = whole_refuted value is_trace names made is_part d.no_schedule;
        }
        said_of r e (Err OutOfMemory) d = tt
        said_of r e (Err (Cert cause leaf)) d = inr (record {
          certificate = certificate;
          spelled = read;
          made = made;
          made_up = record { value = value; is_trace = is_trace; spelled = spelled; names = names; listed = listed; is_part = is_part };
          refused = d;
        })
        said_of r e (Err Device) d = absurd d
        said_of r e (Err InputTooLong) d = absurd d
        said_of r e (Err (Trace cause line)) d = absurd d
        said_of r e (Err (Schedule cause line)) d = absurd d
        said_of r e (Err (Part cause line)) d = absurd d
        said_of r e (Err (Model cause line)) d = absurd d
        said_of r e (Err (Cnf cause line)) d = absurd d
        said_of r e (Err (Lrat cause line)) d = absurd d
        said_of r e (Err (Reduce cause left)) d = absurd d
        said_of r e (Err (Decode cause clause)) d = absurd d
        said_of r e (Err (Check fault step)) d = absurd d
        said_of r e (Err (Reasons cause line)) d = absurd d
        said_of r e (Err (Search fault)) d = absurd d

        pub said : (r : ReducedValue) → r.whole ≡ made.trace → (result : Result ℕ Fault) → IsRecheckedFor r certificate result → IsSaidByPart trace_text cert_text names_text result
        said r e result d = said_of r e result (subst (λ w. IsRecheckedFor (record { whole = w; kept = r.kept }) certificate result) e d)

-- a certificate that is accepted shows that the trace has no schedule
pub shown : (trace : SourceRun) (trace_text cert_text names_text : List ℕ) (count : ℕ) → HandsOut trace trace_text → AreRecheckedByPart trace_text cert_text names_text count → (result : Result Status Fault) →
    OnOk result (InputHasNoLegalSchedule trace)
shown trace trace_text cert_text names_text count handed accepted (Ok status) = record {
  text = trace_text;
  handed = handed;
  value = accepted.made_up.value;
  is_trace = accepted.made_up.is_trace;
  spelled = accepted.made_up.spelled;
  no_schedule = accepted.no_schedule;
}
shown trace trace_text cert_text names_text count handed accepted (Err fault) = tt
