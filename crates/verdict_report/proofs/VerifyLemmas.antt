-- Why nothing is decided of a trace, and what follows from the status where something is.
use Rattle.std.proofs.Common.{◌≡◌, ℕ, List, [], ◌∷◌, ◌++◌, subst}
use Rattle.std.specs.Prelude.{Result, Ok, Err}
use Rattle.cube_jobs.specs.declared.search_fault.SearchCause.{SearchCause}
use Rattle.cube_jobs.specs.Options.{OptionsValue}
use Rattle.reducer.specs.declared.reduce_fault.ReduceCause.TheVariants.{StillTooLarge}
use Rattle.schedule_text.specs.ScheduleWritten.{canonical_schedule}
use Rattle.text_lines.specs.declared.plain_fault.PlainFault.{PlainFault}
use Rattle.text_lines.specs.declared.plain_fault.PlainFault.TheVariants.{OutOfMemory as NoMemoryToSearch, For}
use Rattle.trace_semantics.specs.Trace.{TraceValue}
use Rattle.trace_decision.specs.declared.decision.Decision.{Decision}
use Rattle.trace_decision.specs.declared.decision.Decision.TheVariants.{Consistent, Inconsistent, Unknown as NotDecided}
use Rattle.trace_decision.specs.Decision.{report}
use Rattle.verdict_report.specs.declared.fault.Fault.{Fault}
use Rattle.verdict_report.specs.declared.fault.Fault.TheVariants.{OutOfMemory, Device, InputTooLong, Trace, Schedule, Part, Model, Cnf, Lrat, Reduce, Decode, Check, Cert, Reasons, Search}
use Rattle.verdict_report.specs.declared.status.Status.{Status}
use Rattle.verdict_report.specs.declared.status.Status.TheVariants.{Yes, No, Unknown}
use Rattle.verdict_report.specs.Admitted.{Admits, IsReducedFrom}
use Rattle.verdict_report.specs.Engine.{HandOut, IsRunOfWriting}
use Rattle.verdict_report.specs.Fault.{fault_of_search}
use Rattle.verdict_report.specs.RecheckEngine.{InputHasNoLegalSchedule}
use Rattle.verdict_report.specs.Runs.{SourceRun, SinkRun}
use Rattle.verdict_report.specs.VerifyEngine.{IsDecidedFrom, IsSaidOfTrace, TellsOpen, ReportsLegalSchedule, status_of_decision}
use Rattle.verdict_report.proofs.LegalTextLemmas.{spells}

-- the text is not reduced
pub unreduced : (text : List ℕ) (fault : Fault) → IsReducedFrom text (Err fault) → IsSaidOfTrace text (Err fault)
unreduced text OutOfMemory r = tt
unreduced text Device r = absurd r
unreduced text InputTooLong r = absurd r
unreduced text (Trace cause line) r = r
unreduced text (Schedule cause line) r = absurd r
unreduced text (Part cause line) r = absurd r
unreduced text (Model cause line) r = absurd r
unreduced text (Cnf cause line) r = absurd r
unreduced text (Lrat cause line) r = absurd r
unreduced text (Reduce StillTooLarge left) r = r
unreduced text (Decode cause clause) r = absurd r
unreduced text (Check cause step) r = absurd r
unreduced text (Cert cause place) r = absurd r
unreduced text (Reasons cause line) r = absurd r
unreduced text (Search cause) r = absurd r

-- the search has no results
pub unsearched : (text : List ℕ) (value : TraceValue) → Admits text value → (fault : PlainFault SearchCause) → IsSaidOfTrace text (Err (fault_of_search fault))
unsearched text value admitted NoMemoryToSearch = tt
unsearched text value admitted (For cause) = (value, admitted)

-- what follows from the status of what is decided
module _ (options : OptionsValue) (trace : SourceRun) (text : List ℕ) (handed : HandOut (trace ∷ []) (text ∷ [])) (out : SinkRun) where
  tells : (decision : Decision) → IsDecidedFrom options text decision → out.now ≡ out.before ++ report decision → Yes ≡ status_of_decision decision → ReportsLegalSchedule trace out
  tells (Consistent names) decided whole is = record {
    text = text;
    handed = handed.0.0;
    value = decided.value;
    is_trace = decided.admitted.is_trace;
    spelled = decided.admitted.spelled;
    schedule = canonical_schedule names;
    whole = whole;
    names = names;
    told = spells decided.value names decided.admitted.is_trace decided.decided;
    legal = decided.decided;
  }
  tells (Inconsistent refutation) decided whole is = absurd (let wrong : Yes ≡ No = is in cc)
  tells (NotDecided cubes) decided whole is = absurd (let wrong : Yes ≡ Unknown = is in cc)

  has_none : (decision : Decision) → IsDecidedFrom options text decision → No ≡ status_of_decision decision → InputHasNoLegalSchedule trace
  has_none (Consistent names) decided is = absurd (let wrong : No ≡ Yes = is in cc)
  has_none (Inconsistent refutation) decided is = record {
    text = text;
    handed = handed.0.0;
    value = decided.value;
    is_trace = decided.admitted.is_trace;
    spelled = decided.admitted.spelled;
    no_schedule = decided.decided.1;
  }
  has_none (NotDecided cubes) decided is = absurd (let wrong : No ≡ Unknown = is in cc)

  tells_open : (decision : Decision) → IsDecidedFrom options text decision → out.now ≡ out.before ++ report decision → Unknown ≡ status_of_decision decision → TellsOpen options trace out
  tells_open (Consistent names) decided whole is = absurd (let wrong : Unknown ≡ Yes = is in cc)
  tells_open (Inconsistent refutation) decided whole is = absurd (let wrong : Unknown ≡ No = is in cc)
  tells_open (NotDecided cubes) decided whole is = record {
    text = text;
    handed = handed.0.0;
    value = decided.value;
    admitted = decided.admitted;
    cubes = cubes;
    whole = whole;
    left_open = decided.decided.1;
    models = decided.decided.0;
    schedules = decided.decided.2;
  }

  module _ (decision : Decision) (decided : IsDecidedFrom options text decision) (result : Result Status Fault) (w : IsRunOfWriting (report decision) (status_of_decision decision) out result) where
    -- of the answer that the trace is consistent
    pub consistent : result ≡ Ok Yes → ReportsLegalSchedule trace out
    consistent so =
        let at : IsRunOfWriting (report decision) (status_of_decision decision) out (Ok Yes) = subst (λ (r : Result Status Fault). IsRunOfWriting (report decision) (status_of_decision decision) out r) so w in
        tells decision decided at.1.0 at.0

    -- of the answer that it is not
    pub inconsistent : result ≡ Ok No → InputHasNoLegalSchedule trace
    inconsistent so =
        let at : IsRunOfWriting (report decision) (status_of_decision decision) out (Ok No) = subst (λ (r : Result Status Fault). IsRunOfWriting (report decision) (status_of_decision decision) out r) so w in
        has_none decision decided at.0

    -- of the answer that nothing is decided
    pub unknown : result ≡ Ok Unknown → TellsOpen options trace out
    unknown so =
        let at : IsRunOfWriting (report decision) (status_of_decision decision) out (Ok Unknown) = subst (λ (r : Result Status Fault). IsRunOfWriting (report decision) (status_of_decision decision) out r) so w in
        tells_open decision decided at.1.0 at.0
