-- How an engine ends: by what becomes of its reading, of what is said of its texts, and of its writing.
use Rattle.std.proofs.Common.{◌≡◌, ℕ, ◌+◌, ◌≤◌, List, [], ◌∷◌, ◌++◌, inl, inr, refl, arith}
use Rattle.std.specs.Global.{Vec}
use Rattle.std.specs.Vec.{vec_len}
use Rattle.std.specs.Prelude.{Result, Ok, Err, IfOk, IfErr, OnOk, IsTrue}
use Rattle.dimacs.specs.declared.sink_fault.SinkFault.{SinkFault}
use Rattle.dimacs.specs.declared.sink_fault.SinkFault.TheVariants.{OutOfMemory as NoRoom, Device as SinkFails}
use Rattle.dimacs.specs.Sink.{AppendsFront}
use Rattle.dimacs.specs.SinkFault.{failures_told}
use Rattle.verdict_report.specs.declared.fault.Fault.{Fault}
use Rattle.verdict_report.specs.declared.fault.Fault.TheVariants.{OutOfMemory, Device, InputTooLong, Trace, Schedule, Part, Model, Cnf, Lrat, Reduce, Decode, Check, Cert, Reasons, Search}
use Rattle.verdict_report.specs.declared.reading.ReadFault.{ReadFault}
use Rattle.verdict_report.specs.declared.reading.ReadFault.TheVariants.{OutOfMemory as NoReadMemory, Device as SourceFails, TooLong}
use Rattle.verdict_report.specs.declared.reading.TheConstants.{MAX_INPUT_BYTES}
use Rattle.verdict_report.specs.declared.status.Status.{Status}
use Rattle.verdict_report.specs.Engine.{AreUnfailing, HandOut, IsStopOfReading, TakeNothing, Writing, AtOnce, InPieces, Reads, LacksMemory, IsRunOfEngine, IsRunOfWriting}
use Rattle.verdict_report.specs.Fault.{fault_of_reading, fault_of_sink}
use Rattle.verdict_report.specs.Reading.{CountsFailures, AppendsMoreThan, AppendsAtMost}
use Rattle.verdict_report.specs.Runs.{SourceRun, SinkRun}

-- ---- reading

-- sources that hand out texts do not fail
pub unfailing : (sources : List SourceRun) (texts : List (List ℕ)) → HandOut sources texts → AreUnfailing sources
unfailing [] [] h = tt
unfailing [] (text ∷ texts) h = absurd h
unfailing (source ∷ sources) [] h = absurd h
unfailing (source ∷ sources) (text ∷ texts) h = (h.0.1, unfailing sources texts h.1)

-- one source is read
pub one_handed : (source : SourceRun) (read : Result (Vec ℕ) ReadFault) → IfOk read (λ t. source.now ≡ source.before ++ t.items) → OnOk read (IsTrue source.is_at_end) → IfOk read (λ t. vec_len t ≤ MAX_INPUT_BYTES) →
    CountsFailures read source.failures_before source.failures_now → IfOk read (λ t. HandOut (source ∷ []) (t.items ∷ []))
one_handed source (Ok t) handed ended within counts = ((record { handed = handed; ended = ended; within_limit = omega (arith, within, t.ok.0) }, counts), tt)
one_handed source (Err fault) handed ended within counts = tt

pub one_stopped : {T : Type 0} (source : SourceRun) (read : Result T ReadFault) → CountsFailures read source.failures_before source.failures_now →
    (read ≡ Err TooLong → AppendsMoreThan MAX_INPUT_BYTES source.before source.now) → (read ≡ Err SourceFails → AppendsAtMost MAX_INPUT_BYTES source.before source.now) →
    IfErr read (λ fault. IsStopOfReading (source ∷ []) fault)
one_stopped source (Ok t) counts long within = tt
one_stopped source (Err NoReadMemory) counts long within = (counts, tt)
one_stopped source (Err SourceFails) counts long within = inl ((counts, within refl), tt)
one_stopped source (Err TooLong) counts long within = inl ((long refl, counts), tt)

-- ---- the ends of an engine

module _ {A : Type 0} (said : List (List ℕ) → Result A Fault → Type 0) (texts_of : A → List (List ℕ)) (status_of : A → Status) (sources : List SourceRun) where
  lacks : (writing : Writing) (sinks : List SinkRun) → AreUnfailing sources → TakeNothing sinks → LacksMemory writing said texts_of sources sinks
  lacks AtOnce sinks well none = (well, none)
  lacks InPieces sinks well none = inl (well, none)

  -- reading stops
  pub unread : (writing : Writing) (sinks : List SinkRun) → TakeNothing sinks → (fault : ReadFault) → IsStopOfReading sources fault → IsRunOfEngine writing said texts_of status_of sources sinks (Err (fault_of_reading fault))
  unread writing sinks none NoReadMemory stop = lacks writing sinks stop none
  unread writing sinks none SourceFails stop = inl (stop, none)
  unread writing sinks none TooLong stop = (stop, none)

  -- the texts are refused
  module _ (writing : Writing) (sinks : List SinkRun) (none : TakeNothing sinks) (texts : List (List ℕ)) (handed : HandOut sources texts) where
    pub refused : (said texts (Err Device) → ⊥) → (said texts (Err InputTooLong) → ⊥) → (fault : Fault) → said texts (Err fault) → IsRunOfEngine writing said texts_of status_of sources sinks (Err fault)
    refused d l OutOfMemory s = lacks writing sinks (unfailing sources texts handed) none
    refused d l Device s = absurd (d s)
    refused d l InputTooLong s = absurd (l s)
    refused d l (Trace cause line) s = (record { texts = texts; handed = handed; is_said = s }, none)
    refused d l (Schedule cause line) s = (record { texts = texts; handed = handed; is_said = s }, none)
    refused d l (Part cause line) s = (record { texts = texts; handed = handed; is_said = s }, none)
    refused d l (Model cause line) s = (record { texts = texts; handed = handed; is_said = s }, none)
    refused d l (Cnf cause line) s = (record { texts = texts; handed = handed; is_said = s }, none)
    refused d l (Lrat cause line) s = (record { texts = texts; handed = handed; is_said = s }, none)
    refused d l (Reduce cause left) s = (record { texts = texts; handed = handed; is_said = s }, none)
    refused d l (Decode cause clause) s = (record { texts = texts; handed = handed; is_said = s }, none)
    refused d l (Check cause step) s = (record { texts = texts; handed = handed; is_said = s }, none)
    refused d l (Cert cause place) s = (record { texts = texts; handed = handed; is_said = s }, none)
    refused d l (Reasons cause line) s = (record { texts = texts; handed = handed; is_said = s }, none)
    refused d l (Search fault) s = (record { texts = texts; handed = handed; is_said = s }, none)

-- an engine with one sink writes its answer
module _ {A : Type 0} (said : List (List ℕ) → Result A Fault → Type 0) (text_of : A → List ℕ) (status_of : A → Status) (sources : List SourceRun) (out : SinkRun) (texts : List (List ℕ)) (handed : HandOut sources texts) (answer : A) (is_said : said texts (Ok answer)) where
  reads : Reads said sources (Ok answer)
  reads = record { texts = texts; handed = handed; is_said = is_said }

  pub written : (result : Result Status Fault) → IsRunOfWriting (text_of answer) (status_of answer) out result → IsRunOfEngine AtOnce said (λ a. text_of a ∷ []) status_of sources (out ∷ []) result
  written (Ok status) w = record { answer = answer; reads = reads; whole = (w.1, tt); status_is = w.0 }
  written (Err OutOfMemory) w = (unfailing sources texts handed, (w, tt))
  written (Err Device) w = inr (record { answer = answer; reads = reads; stopped = inl (w, tt) })
  written (Err InputTooLong) w = absurd w
  written (Err (Trace cause line)) w = absurd w
  written (Err (Schedule cause line)) w = absurd w
  written (Err (Part cause line)) w = absurd w
  written (Err (Model cause line)) w = absurd w
  written (Err (Cnf cause line)) w = absurd w
  written (Err (Lrat cause line)) w = absurd w
  written (Err (Reduce cause left)) w = absurd w
  written (Err (Decode cause clause)) w = absurd w
  written (Err (Check cause step)) w = absurd w
  written (Err (Cert cause place)) w = absurd w
  written (Err (Reasons cause line)) w = absurd w
  written (Err (Search fault)) w = absurd w

  -- while it is made, and the sink fails or memory runs out after a prefix
  pub cut_off : (fault : SinkFault) → AppendsFront out.before out.now (text_of answer) → out.failures_now ≡ out.failures_before + failures_told fault →
      IsRunOfEngine InPieces said (λ a. text_of a ∷ []) status_of sources (out ∷ []) (Err (fault_of_sink fault))
  cut_off NoRoom front counts = inr (record { answer = answer; reads = reads; stopped = inl ((front, omega (arith, counts)), tt) })
  cut_off SinkFails front counts = inr (record { answer = answer; reads = reads; stopped = inl ((front, omega (arith, counts)), tt) })
