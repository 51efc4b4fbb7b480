use Rattle.std.proofs.Common.{◌≡◌, ℕ, Bool, true, false, List, ap, subst, sym, ◌∙◌}
use Rattle.std.specs.Bool.{MatchBool}
use Rattle.std.specs.Prelude.{Result, Ok, Err}
use Rattle.trace_semantics.specs.Trace.{TraceValue, IsTrace}
use Rattle.trace_text.proofs.NeverFaulty.TraceClearLemmas.{never_both as trace_never_faulty}
use Rattle.trace_text.specs.TraceText.{SpellsTrace}
use Rattle.reason_text.specs.Header.{begins_reasons, is_headed}
use Rattle.verdict_report.specs.declared.fault.Fault.{Fault}
use Rattle.verdict_report.specs.declared.fault.Fault.TheVariants.{OutOfMemory, Device, InputTooLong, Trace, Schedule, Part, Model, Cnf, Lrat, Reduce, Decode, Check, Cert, Reasons, Search}
use Rattle.verdict_report.specs.declared.recheck_engine.CertificateSize.{CertificateSize}
use Rattle.verdict_report.specs.declared.recheck_engine.CertificateSize.TheVariants.{Cubes, Clauses}
use Rattle.verdict_report.specs.RecheckEngine.{IsSaidOfCertificate, IsSaidOfEither, IsSaidOfReasons}
use Rattle.core_recheck.specs.CoreRecheck.{IsTakenForReasons}
use Rattle.core_recheck.proofs.laws.reasons_are_taken.Goals as goal

-- What is written as a certificate of reasons is taken for one.

module _ (t : TraceValue) (trace_text cert_text : List ℕ) (ok : IsTrace t) (spelled : SpellsTrace trace_text t) (begins : begins_reasons cert_text ≡ true) where
  refused : (fault : Fault) → IsSaidOfReasons trace_text cert_text (Err fault) → IsTakenForReasons (Err fault)
  refused OutOfMemory said = tt
  refused (Reasons cause line) said = tt
  refused (Lrat cause line) said = tt
  refused (Check cause step) said = tt
  refused (Trace cause line) said = absurd (trace_never_faulty trace_text t cause line ok spelled said)
  refused Device said = absurd said
  refused InputTooLong said = absurd said
  refused (Schedule cause line) said = absurd said
  refused (Part cause line) said = absurd said
  refused (Model cause line) said = absurd said
  refused (Cnf cause line) said = absurd said
  refused (Reduce cause left) said = absurd said
  refused (Decode cause clause) said = absurd said
  refused (Cert cause place) said = absurd said
  refused (Search fault) said = absurd said

  taken : (result : Result CertificateSize Fault) → IsSaidOfEither trace_text cert_text result → IsTakenForReasons result
  taken (Ok (Clauses count)) said = tt
  taken (Ok (Cubes count)) said = absurd (let wrong : true ≡ false = sym begins ∙ said.0 in cc)
  taken (Err fault) said = refused fault (subst (λ (b : Bool). MatchBool b (IsSaidOfReasons trace_text cert_text (Err fault)) (IsSaidOfCertificate trace_text cert_text (Err fault))) begins said)

pub returns : goal.returns
returns c options t reasons trace_text result ok spelled given said =
    taken t trace_text reasons.text.items ok spelled (ap is_headed given.accepted.parts ∙ given.accepted.headed) result said
