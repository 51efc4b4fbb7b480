-- What a certificate for the clauses of a kept trace says of the whole trace.
use Rattle.std.proofs.Common.{◌≤◌, ℕ, Bool, true, false, List, inl, inr, subst, sym}
use Rattle.std.specs.Bool.{MatchBool}
use Rattle.std.specs.Prelude.{Result, Ok, Err, OnOk}
use Rattle.certificate.specs.CertFaults.{HasCertFault}
use Rattle.certificate.specs.CertText.{SpellsCertificate}
use Rattle.certificate.specs.Rechecked.{IsRechecked, HasRecheckFault}
use Rattle.certificate.specs.declared.cert_fault.CertCause.{CertCause}
use Rattle.certificate.specs.declared.certificate.Certificate.{Certificate}
use Rattle.clause_blocks.specs.Clauses.{clauses_of}
use Rattle.dimacs.specs.Models.{IsModel}
use Rattle.reason_check.specs.Refused.{IsRefusedReasons}
use Rattle.reason_check.specs.declared.reasons_fault.ReasonsFault.{ReasonsFault}
use Rattle.reason_check.specs.declared.reasons_fault.ReasonsFault.TheVariants.{OutOfMemory as NoReasonMemory, Line, Lrat as BadText, Step}
use Rattle.reducer.specs.Reduced.{ReducedValue, IsReduced, HasReduceFault}
use Rattle.reducer.specs.declared.reduce_fault.ReduceCause.{ReduceCause}
use Rattle.reducer.specs.declared.reduce_fault.ReduceCause.TheVariants.{StillTooLarge}
use Rattle.text_lines.specs.Fault.{IsRefusal}
use Rattle.text_lines.specs.declared.fault.PlacedFault.{PlacedFault as PartFault}
use Rattle.text_lines.specs.declared.fault.PlacedFault.TheVariants.{OutOfMemory as NoPartMemory, At}
use Rattle.trace_semantics.specs.Legal.{HasNoSchedule}
use Rattle.trace_semantics.specs.Trace.{TraceValue, IsTrace, operation_count}
use Rattle.trace_text.specs.TraceText.{SpellsTrace}
use Rattle.verdict_report.specs.declared.fault.Fault.{Fault}
use Rattle.verdict_report.specs.declared.fault.Fault.TheVariants.{OutOfMemory, Device, InputTooLong, Trace, Schedule, Part, Model, Cnf, Lrat, Reduce, Decode, Check, Cert, Reasons, Search}
use Rattle.verdict_report.specs.Admitted.{Admits}
use Rattle.verdict_report.specs.Fault.{fault_of_part, fault_of_reasons}
use Rattle.verdict_report.specs.Runs.{SourceRun, HandsOut}
use Rattle.verdict_report.specs.declared.recheck_engine.CertificateSize.{CertificateSize}
use Rattle.verdict_report.specs.declared.recheck_engine.CertificateSize.TheVariants.{Cubes, Clauses}
use Rattle.verdict_report.specs.declared.status.Status.{Status}
use Rattle.verdict_report.specs.RecheckEngine.{Refutes, IsRecheckedFor, AreRechecked, IsSaidOfCertificate, InputHasNoLegalSchedule, IsSaidOfReasons, IsSaidOfEither}
use Rattle.verdict_report.proofs.MeaningLemmas.{model_of_schedule}

module _ (r : ReducedValue) (ok : IsReduced r) (certificate : Certificate) where
  -- where the clauses of what is kept have no model, the whole trace has no schedule
  no_schedule : ((truth : ℕ → Bool) → IsModel truth (clauses_of r.kept) → ⊥) → HasNoSchedule r.whole
  no_schedule none names legal =
      let m = model_of_schedule r.whole ok.is_trace names legal in
      none m.0 (subst (λ (t : TraceValue). IsModel m.0 (clauses_of t)) (sym ok.reduction) m.1)

  pub refutes : (count : ℕ) → IsRechecked (clauses_of r.kept) certificate count → ((truth : ℕ → Bool) → IsModel truth (clauses_of r.kept) → ⊥) → Refutes certificate r.whole count
  refutes count rechecked none = record {
    rechecked = subst (λ (t : TraceValue). IsRechecked (clauses_of t) certificate count) ok.reduction rechecked;
    no_schedule = no_schedule none;
  }

  pub refused : (fault : PartFault CertCause) → IsRefusal (HasRecheckFault (clauses_of r.kept) certificate) fault → IsRecheckedFor r certificate (Err (fault_of_part Cert fault))
  refused NoPartMemory refusal = tt
  refused (At cause leaf) refusal = subst (λ (t : TraceValue). HasRecheckFault (clauses_of t) certificate cause leaf) ok.reduction refusal

  module _ (trace_text cert_text : List ℕ) (spelled : SpellsTrace trace_text r.whole) (read : SpellsCertificate cert_text certificate) where
    admitted : Admits trace_text r.whole
    admitted = record { is_trace = ok.is_trace; spelled = spelled; few = subst (λ (t : TraceValue). operation_count t ≤ 160) ok.reduction ok.few }

    pub said : (result : Result ℕ Fault) → IsRecheckedFor r certificate result → IsSaidOfCertificate trace_text cert_text result
    said (Ok count) d = record { value = r.whole; admitted = admitted; certificate = certificate; spelled = read; refuted = d }
    said (Err OutOfMemory) d = tt
    said (Err (Cert cause leaf)) d = inr (record { value = r.whole; admitted = admitted; certificate = certificate; spelled = read; refused = d })
    said (Err Device) d = absurd d
    said (Err InputTooLong) d = absurd d
    said (Err (Trace cause line)) d = absurd d
    said (Err (Schedule cause line)) d = absurd d
    said (Err (Part cause line)) d = absurd d
    said (Err (Model cause line)) d = absurd d
    said (Err (Cnf cause line)) d = absurd d
    said (Err (Lrat cause line)) d = absurd d
    said (Err (Reduce StillTooLarge left)) d = absurd d
    said (Err (Decode cause clause)) d = absurd d
    said (Err (Check fault step)) d = absurd d
    said (Err (Reasons cause line)) d = absurd d
    said (Err (Search fault)) d = absurd d

module _ (trace_text cert_text : List ℕ) (value : TraceValue) (is_trace : IsTrace value) (spelled : SpellsTrace trace_text value) where
  -- the certificate's text has a fault
  pub unread : (fault : PartFault CertCause) → IsRefusal (HasCertFault cert_text) fault → IsSaidOfCertificate trace_text cert_text (Err (fault_of_part Cert fault))
  unread NoPartMemory refusal = tt
  unread (At cause line) refusal = inl (record { value = value; is_trace = is_trace; spelled = spelled; faulty = refusal })

  -- the trace is not reduced, where both texts are read
  pub unreduced : (certificate : Certificate) → SpellsCertificate cert_text certificate → (fault : PartFault ReduceCause) → IsRefusal (HasReduceFault value) fault →
      IsSaidOfCertificate trace_text cert_text (Err (fault_of_part Reduce fault))
  unreduced certificate read NoPartMemory refusal = tt
  unreduced certificate read (At StillTooLarge left) refusal =
      record { large = record { value = value; is_trace = is_trace; spelled = spelled; left_is = refusal.1; many = refusal.0 }; certificate = certificate; spelled = read }

-- a certificate that is accepted shows that the trace has no schedule
pub shown : (trace : SourceRun) (trace_text cert_text : List ℕ) (count : ℕ) → HandsOut trace trace_text → AreRechecked trace_text cert_text count → (result : Result Status Fault) →
    OnOk result (InputHasNoLegalSchedule trace)
shown trace trace_text cert_text count handed accepted (Ok status) = record {
  text = trace_text;
  handed = handed;
  value = accepted.value;
  is_trace = accepted.admitted.is_trace;
  spelled = accepted.admitted.spelled;
  no_schedule = accepted.refuted.no_schedule;
}
shown trace trace_text cert_text count handed accepted (Err fault) = tt

-- the same, whichever kind the certificate is of
pub shown_either : (trace : SourceRun) (trace_text cert_text : List ℕ) (size : CertificateSize) → HandsOut trace trace_text → IsSaidOfEither trace_text cert_text (Ok size) → (result : Result Status Fault) →
    OnOk result (InputHasNoLegalSchedule trace)
shown_either trace trace_text cert_text (Cubes count) handed said result = shown trace trace_text cert_text count handed said.1 result
shown_either trace trace_text cert_text (Clauses count) handed said (Ok status) = record {
  text = trace_text;
  handed = handed;
  value = said.1.value;
  is_trace = said.1.is_trace;
  spelled = said.1.spelled;
  no_schedule = said.1.no_schedule;
}
shown_either trace trace_text cert_text (Clauses count) handed said (Err fault) = tt

-- what is nothing in both cases is nothing
pub none_of_both : (b : Bool) → MatchBool b ⊥ ⊥ → ⊥
none_of_both true e = e
none_of_both false e = e

-- a certificate of reasons is refused
pub said_refused : (t : TraceValue) → IsTrace t → (trace_text cert_text : List ℕ) → SpellsTrace trace_text t → (fault : ReasonsFault) → IsRefusedReasons t cert_text fault → IsSaidOfReasons trace_text cert_text (Err (fault_of_reasons fault))
said_refused t ok trace_text cert_text spelled NoReasonMemory h = tt
said_refused t ok trace_text cert_text spelled (Line cause line) h = record { value = t; is_trace = ok; spelled = spelled; refused = h }
said_refused t ok trace_text cert_text spelled (BadText cause line) h = record { value = t; is_trace = ok; spelled = spelled; refused = h }
said_refused t ok trace_text cert_text spelled (Step fault step) h = record { value = t; is_trace = ok; spelled = spelled; refused = h }
