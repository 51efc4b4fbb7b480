use Rattle.std.proofs.Common.{◌≡◌, ◌≤◌, ℕ, List, inl, inr, ap, subst, sym, ◌∙◌, arith}
use Rattle.std.specs.Prelude.{Result, Ok, Err}
use Rattle.cube_tree.specs.CubeTree.{leaves}
use Rattle.trace_semantics.specs.Trace.{TraceValue, operation_count}
use Rattle.trace_text.proofs.OneTraceLemmas.{one_spelled as one_trace}
use Rattle.trace_text.proofs.NeverFaulty.TraceClearLemmas.{never_both as trace_never_faulty}
use Rattle.reducer.specs.Reduction.{kept_trace}
use Rattle.reducer.specs.declared.reduce_fault.ReduceCause.TheVariants.{StillTooLarge}
use Rattle.clause_blocks.specs.Clauses.{clauses_of}
use Rattle.certificate.specs.CertText.{SpellsCertificate}
use Rattle.certificate.specs.Rechecked.{IsRechecked, HasRecheckFault}
use Rattle.certificate.specs.declared.certificate.Certificate.{Certificate}
use Rattle.certificate.proofs.RefusalLemmas.{never_both as never_refused}
use Rattle.certificate.proofs.CertificateText.TextLawLemmas.{one_spelled as one_certificate, never_both as cert_never_faulty}
use Rattle.cube_jobs.specs.Options.{OptionsValue}
use Rattle.trace_decision.specs.declared.decision.Decision.TheVariants.{Inconsistent}
use Rattle.trace_decision.specs.declared.refutation.Refutation.{Refutation}
use Rattle.trace_decision.specs.Decision.{certificate_text, certificate_in}
use Rattle.verdict_report.specs.Admitted.{Admits}
use Rattle.verdict_report.specs.declared.fault.Fault.{Fault}
use Rattle.verdict_report.specs.declared.fault.Fault.TheVariants.{OutOfMemory, Device, InputTooLong, Trace, Schedule, Part, Model, Cnf, Lrat, Reduce, Decode, Check, Cert, Reasons, Search}
use Rattle.verdict_report.specs.RecheckEngine.{IsSaidOfCertificate}
use Rattle.core_recheck.specs.CoreRecheck.{IsAcceptedOf}
use Rattle.core_recheck.proofs.laws.certificate_is_rechecked.Goals as goal

-- What is written of a trace without a legal schedule is accepted.

module _ (t : TraceValue) (refutation : Refutation) (trace_text : List ℕ) (admitted : Admits trace_text t) (spelled : SpellsCertificate (certificate_text (Inconsistent refutation)) (certificate_in refutation))
    (accepted : IsRechecked (clauses_of (kept_trace t)) (certificate_in refutation) (leaves refutation.tree)) where
  abbrev cert_text : List ℕ
  cert_text = certificate_text (Inconsistent refutation)

  one : (certificate : Certificate) → SpellsCertificate cert_text certificate → certificate ≡ certificate_in refutation
  one certificate read = one_certificate cert_text certificate (certificate_in refutation) read spelled

  rechecked : (result : Result ℕ Fault) → IsSaidOfCertificate trace_text cert_text result → IsAcceptedOf (leaves refutation.tree) result
  rechecked (Ok count) said = said.refuted.rechecked.counted ∙ ap (λ (c : Certificate). leaves c.tree) (one said.certificate said.spelled) ∙ sym accepted.counted
  rechecked (Err OutOfMemory) said = tt
  rechecked (Err (Trace cause line)) said = absurd (trace_never_faulty trace_text t cause line admitted.is_trace admitted.spelled said)
  rechecked (Err (Cert cause place)) (inl f) = absurd (cert_never_faulty cert_text (certificate_in refutation) cause place spelled f.faulty)
  rechecked (Err (Cert cause place)) (inr f) =
      let value_is : f.value ≡ t = one_trace trace_text f.value t f.admitted.is_trace admitted.is_trace f.admitted.spelled admitted.spelled in
      let here : HasRecheckFault (clauses_of (kept_trace t)) f.certificate cause place = subst (λ (w : TraceValue). HasRecheckFault (clauses_of (kept_trace w)) f.certificate cause place) value_is f.refused in
      let there : HasRecheckFault (clauses_of (kept_trace t)) (certificate_in refutation) cause place = subst (λ (d : Certificate). HasRecheckFault (clauses_of (kept_trace t)) d cause place) (one f.certificate f.spelled) here in
      absurd (never_refused (clauses_of (kept_trace t)) (certificate_in refutation) (leaves refutation.tree) cause place accepted there)
  rechecked (Err (Reduce StillTooLarge left)) f =
      let value_is : f.large.value ≡ t = one_trace trace_text f.large.value t f.large.is_trace admitted.is_trace f.large.spelled admitted.spelled in
      let few : operation_count (kept_trace f.large.value) ≤ 160 = subst (λ (w : TraceValue). operation_count (kept_trace w) ≤ 160) (sym value_is) admitted.few in
      absurd (omega (arith, few, f.large.left_is, f.large.many))
  rechecked (Err Device) said = absurd said
  rechecked (Err InputTooLong) said = absurd said
  rechecked (Err (Schedule cause line)) said = absurd said
  rechecked (Err (Part cause line)) said = absurd said
  rechecked (Err (Model cause line)) said = absurd said
  rechecked (Err (Cnf cause line)) said = absurd said
  rechecked (Err (Lrat cause line)) said = absurd said
  rechecked (Err (Decode cause clause)) said = absurd said
  rechecked (Err (Check cause step)) said = absurd said
  rechecked (Err (Reasons cause line)) said = absurd said
  rechecked (Err (Search fault)) said = absurd said

pub returns : goal.returns
returns c options t refutation trace_text result admitted decided said =
    rechecked t refutation trace_text admitted (c.certificate_is_accepted.ensures.spelled options t refutation decided) (c.certificate_is_accepted.ensures.accepted options t refutation decided) result said
