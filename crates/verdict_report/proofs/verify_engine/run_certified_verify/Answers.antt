use Rattle.std.proofs.Common.{refl, rules, [], ◌∷◌, ◌≡◌, ℕ, ◌+◌, List, ◌++◌, inl, inr, sym, ◌∙◌, subst, arith, append-nil}
use Rattle.std.specs.Prelude.{Result, Ok, Err}
use Rattle.std.proofs.lemmas.Result.{err_from_is_err_and}
use Rattle.dimacs.specs.declared.sink_fault.SinkFault.{SinkFault}
use Rattle.dimacs.specs.declared.sink_fault.SinkFault.TheVariants.{OutOfMemory as NoRoom, Device as SinkFails}
use Rattle.dimacs.specs.Sink.{AppendsFront}
use Rattle.dimacs.specs.SinkFault.{failures_told}
use Rattle.trace_semantics.specs.Trace.{TraceValue}
use Rattle.reducer.specs.Reduction.{kept_trace}
use Rattle.clause_blocks.specs.Clauses.{clauses_of}
use Rattle.cube_tree.specs.CubeTree.{leaves}
use Rattle.certificate.specs.CertText.{SpellsCertificate}
use Rattle.certificate.specs.Rechecked.{IsRechecked}
use Rattle.cube_jobs.specs.Options.{OptionsValue}
use Rattle.trace_decision.specs.declared.decision.Decision.{Decision}
use Rattle.trace_decision.specs.declared.decision.Decision.TheVariants.{Consistent, Inconsistent, Unknown as NotDecided}
use Rattle.trace_decision.specs.declared.refutation.Refutation.{Refutation}
use Rattle.trace_decision.specs.Decision.{IsDecided, certificate_in, certificate_text, report}
use Rattle.verdict_report.specs.Engine.{InPieces, of_one, HandOut, IsRunOfWriting, Reads, TakesNothing, TakesWhole}
use Rattle.verdict_report.specs.Runs.{SourceRun, SinkRun, source_run, sink_run}
use Rattle.verdict_report.specs.VerifyEngine.{IsSaidOfTrace, status_of_decision, texts_with_certificate, WritesAcceptedCertificate, IsDecidedFrom, IsRunOfCertifiedVerify}
use Rattle.verdict_report.specs.declared.fault.Fault.{Fault}
use Rattle.verdict_report.specs.declared.fault.Fault.TheVariants.{OutOfMemory, Device, InputTooLong, Trace, Schedule, Part, Model, Cnf, Lrat, Reduce, Decode, Check, Cert, Reasons, Search}
use Rattle.verdict_report.specs.declared.status.Status.{Status}
use Rattle.verdict_report.specs.declared.status.Status.TheVariants.{Yes, No, Unknown}
use Rattle.verdict_report.specs.Fault.{fault_of_sink}
use Rattle.verdict_report.proofs.EngineLemmas.{unread, refused}
use Rattle.verdict_report.proofs.VerifyLemmas.{consistent, unknown}
use Rattle.verdict_report.proofs.verify_engine.run_certified_verify.Goals as goal

-- How the engine that decides traces ends where a certificate is asked for.

-- a sink that takes nothing takes a prefix of any text
nothing_is_front : (out : SinkRun) (text : List ℕ) → TakesNothing out → AppendsFront out.before out.now text
nothing_is_front out text none = record { front = []; back = text; parts = refl; appended = none.0 ∙ sym (append-nil out.before) }

module _ (trace : SourceRun) (cert out : SinkRun) (text : List ℕ) (handed : HandOut (trace ∷ []) (text ∷ [])) (options : OptionsValue) (decision : Decision) (decided : IsDecidedFrom options text decision) where
  reads : Reads (of_one IsSaidOfTrace) (trace ∷ []) (Ok decision)
  reads = record { texts = text ∷ []; handed = handed; is_said = (options, decided) }

  -- the certificate is cut off
  cert_cut_off : (fault : SinkFault) → AppendsFront cert.before cert.now (certificate_text decision) → cert.failures_now ≡ cert.failures_before + failures_told fault → TakesNothing out →
      IsRunOfCertifiedVerify trace cert out (Err (fault_of_sink fault))
  cert_cut_off NoRoom front counts none = inr (record { answer = decision; reads = reads; stopped = inl ((front, omega (arith, counts)), (none, tt)) })
  cert_cut_off SinkFails front counts none = inr (record { answer = decision; reads = reads; stopped = inl ((front, omega (arith, counts)), (none, tt)) })

  -- the certificate is written, and then the report
  report_written : TakesWhole cert (certificate_text decision) → (result : Result Status Fault) → IsRunOfWriting (report decision) (status_of_decision decision) out result → IsRunOfCertifiedVerify trace cert out result
  report_written whole (Ok status) w = record { answer = decision; reads = reads; whole = (whole, (w.1, tt)); status_is = w.0 }
  report_written whole (Err OutOfMemory) w = inr (record { answer = decision; reads = reads; stopped = inr (whole, inl ((nothing_is_front out (report decision) w, w.1), tt)) })
  report_written whole (Err Device) w = inr (record { answer = decision; reads = reads; stopped = inr (whole, inl (w, tt)) })
  report_written whole (Err InputTooLong) w = absurd w
  report_written whole (Err (Trace cause line)) w = absurd w
  report_written whole (Err (Schedule cause line)) w = absurd w
  report_written whole (Err (Part cause line)) w = absurd w
  report_written whole (Err (Model cause line)) w = absurd w
  report_written whole (Err (Cnf cause line)) w = absurd w
  report_written whole (Err (Lrat cause line)) w = absurd w
  report_written whole (Err (Reduce cause left)) w = absurd w
  report_written whole (Err (Decode cause clause)) w = absurd w
  report_written whole (Err (Check cause step)) w = absurd w
  report_written whole (Err (Cert cause place)) w = absurd w
  report_written whole (Err (Reasons cause line)) w = absurd w
  report_written whole (Err (Search fault)) w = absurd w

-- what the laws say of a certificate that is written
module _ (trace : SourceRun) (cert : SinkRun) (text : List ℕ) (handed : HandOut (trace ∷ []) (text ∷ []))
    (options : OptionsValue)
    (spells : (options : OptionsValue) (value : TraceValue) (refutation : Refutation) → IsDecided options value (Inconsistent refutation) → SpellsCertificate (certificate_text (Inconsistent refutation)) (certificate_in refutation))
    (accepted : (options : OptionsValue) (value : TraceValue) (refutation : Refutation) → IsDecided options value (Inconsistent refutation) → IsRechecked (clauses_of (kept_trace value)) (certificate_in refutation) (leaves refutation.tree)) where
  certifies : (decision : Decision) → IsDecidedFrom options text decision → cert.now ≡ cert.before ++ certificate_text decision → (status : Status) → status ≡ status_of_decision decision → status ≡ No → WritesAcceptedCertificate trace cert
  certifies (Consistent names) decided whole status is so = absurd (let wrong : Yes ≡ No = sym is ∙ so in cc)
  certifies (Inconsistent refutation) decided whole status is so = record {
    text = text;
    handed = handed.0.0;
    value = decided.value;
    admitted = decided.admitted;
    written = certificate_text (Inconsistent refutation);
    whole = whole;
    certificate = certificate_in refutation;
    spelled = spells options decided.value refutation decided.decided;
    count = leaves refutation.tree;
    accepted = accepted options decided.value refutation decided.decided;
    none_legal = decided.decided.1;
  }
  certifies (NotDecided cubes) decided whole status is so = absurd (let wrong : Unknown ≡ No = sym is ∙ so in cc)

  -- the answer is the one for what is decided
  certified : (decision : Decision) → IsDecidedFrom options text decision → cert.now ≡ cert.before ++ certificate_text decision → (out : SinkRun) (result : Result Status Fault) →
      IsRunOfWriting (report decision) (status_of_decision decision) out result → result ≡ Ok No → WritesAcceptedCertificate trace cert
  certified decision decided whole out result w so =
      let at : IsRunOfWriting (report decision) (status_of_decision decision) out (Ok No) = subst (λ (r : Result Status Fault). IsRunOfWriting (report decision) (status_of_decision decision) out r) so w in
      certifies decision decided whole No at.0 refl

pub returns-clause-run : goal.returns-clause-run
returns-clause-run g c =
    let trace : SourceRun = source_run g.T.Source.handed_out g.T.Source.is_at_end g.T.Source.failures c.args.trace.now c.read_one.new.source in
    let cert : SinkRun = sink_run g.C.Sink.written g.C.Sink.failures c.args.cert.now c.write_certificate.new.sink in
    let out : SinkRun = sink_run g.W.Sink.written g.W.Sink.failures c.args.out.now c.write_report.new.out in
    report_written trace cert out c.in_ok-text.text.items (search rules) c.args.run.now.options.now c.in_ok-decision.decision (search rules) (c.in_ok-write_certificate.ensures.whole, c.in_ok-write_certificate.ensures.well) c.write_report.result c.write_report.ensures.run

pub returns-clause-consistent : goal.returns-clause-consistent
returns-clause-consistent g c =
    let trace : SourceRun = source_run g.T.Source.handed_out g.T.Source.is_at_end g.T.Source.failures c.args.trace.now c.read_one.new.source in
    let out : SinkRun = sink_run g.W.Sink.written g.W.Sink.failures c.args.out.now c.write_report.new.out in
    consistent c.args.run.now.options.now trace c.in_ok-text.text.items (search rules) out c.in_ok-decision.decision (search rules) c.write_report.result c.write_report.ensures.run

pub returns-clause-certified : goal.returns-clause-certified
returns-clause-certified g c =
    let trace : SourceRun = source_run g.T.Source.handed_out g.T.Source.is_at_end g.T.Source.failures c.args.trace.now c.read_one.new.source in
    let cert : SinkRun = sink_run g.C.Sink.written g.C.Sink.failures c.args.cert.now c.write_certificate.new.sink in
    let out : SinkRun = sink_run g.W.Sink.written g.W.Sink.failures c.args.out.now c.write_report.new.out in
    certified trace cert c.in_ok-text.text.items (search rules) c.args.run.now.options.now c.certificate_is_accepted.ensures.spelled c.certificate_is_accepted.ensures.accepted c.in_ok-decision.decision (search rules) c.in_ok-write_certificate.ensures.whole out c.write_report.result c.write_report.ensures.run

pub returns-in_err-text-clause-run : goal.returns-in_err-text-clause-run
returns-in_err-text-clause-run g c =
    let trace : SourceRun = source_run g.T.Source.handed_out g.T.Source.is_at_end g.T.Source.failures c.args.trace.now c.read_one.new.source in
    let cert : SinkRun = sink_run g.C.Sink.written g.C.Sink.failures c.args.cert.now c.args.cert.now in
    let out : SinkRun = sink_run g.W.Sink.written g.W.Sink.failures c.args.out.now c.args.out.now in
    let p = err_from_is_err_and c.from_residual.result c.from_residual.ensures.1 in
    rw (p.1, p.2) (unread (of_one IsSaidOfTrace) texts_with_certificate status_of_decision (trace ∷ []) InPieces (cert ∷ out ∷ []) ((refl, refl), ((refl, refl), tt)) c.in_err-text.field-0.0 (search rules))

pub returns-in_err-decision-clause-run : goal.returns-in_err-decision-clause-run
returns-in_err-decision-clause-run g c =
    let trace : SourceRun = source_run g.T.Source.handed_out g.T.Source.is_at_end g.T.Source.failures c.args.trace.now c.read_one.new.source in
    let cert : SinkRun = sink_run g.C.Sink.written g.C.Sink.failures c.args.cert.now c.args.cert.now in
    let out : SinkRun = sink_run g.W.Sink.written g.W.Sink.failures c.args.out.now c.args.out.now in
    let p = err_from_is_err_and c.from_residual-in_err-decision.result c.from_residual-in_err-decision.ensures.1 in
    rw (p.1, p.2) (refused (of_one IsSaidOfTrace) texts_with_certificate status_of_decision (trace ∷ []) InPieces (cert ∷ out ∷ []) ((refl, refl), ((refl, refl), tt)) (c.in_ok-text.text.items ∷ []) (search rules) (λ s. s) (λ s. s) c.in_err-decision.field-0.0 (search rules))

pub returns-in_err-write_certificate-clause-run : goal.returns-in_err-write_certificate-clause-run
returns-in_err-write_certificate-clause-run g c =
    let trace : SourceRun = source_run g.T.Source.handed_out g.T.Source.is_at_end g.T.Source.failures c.args.trace.now c.read_one.new.source in
    let cert : SinkRun = sink_run g.C.Sink.written g.C.Sink.failures c.args.cert.now c.write_certificate.new.sink in
    let out : SinkRun = sink_run g.W.Sink.written g.W.Sink.failures c.args.out.now c.args.out.now in
    let p = err_from_is_err_and c.from_residual-in_err-write_certificate.result c.from_residual-in_err-write_certificate.ensures.1 in
    rw (p.1, p.2) (cert_cut_off trace cert out c.in_ok-text.text.items (search rules) c.args.run.now.options.now c.in_ok-decision.decision (search rules) c.in_err-write_certificate.field-0.0 c.in_err-write_certificate.ensures.front c.in_err-write_certificate.ensures.failed (refl, refl))

pub returns-clause-unknown : goal.returns-clause-unknown
returns-clause-unknown g c =
    let trace : SourceRun = source_run g.T.Source.handed_out g.T.Source.is_at_end g.T.Source.failures c.args.trace.now c.read_one.new.source in
    let out : SinkRun = sink_run g.W.Sink.written g.W.Sink.failures c.args.out.now c.write_report.new.out in
    unknown c.args.run.now.options.now trace c.in_ok-text.text.items (search rules) out c.in_ok-decision.decision (search rules) c.write_report.result c.write_report.ensures.run
