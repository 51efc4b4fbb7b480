-- What an engine does: it reads a text from each of its sources, one after the other, each whole, and then writes a text to each of
-- its sinks, one after the other. What is said of the texts that it reads, the texts that it writes and its status are parameters.
use Rattle.std.specs.Prelude.{◌≡◌, ◌+◌, ◌⊎◌, ⊤, ℕ, List, [], ◌∷◌, ◌++◌, Result, Ok, Err}
use Rattle.dimacs.specs.Sink.{AppendsFront}
use Rattle.verdict_report.specs.declared.fault.Fault.{Fault}
use Rattle.verdict_report.specs.declared.fault.Fault.TheVariants.{OutOfMemory, Device, InputTooLong}
use Rattle.verdict_report.specs.declared.reading.ReadFault.{ReadFault}
use Rattle.verdict_report.specs.declared.reading.ReadFault.TheVariants.{OutOfMemory as NoReadMemory, Device as SourceFails, TooLong}
use Rattle.verdict_report.specs.declared.reading.TheConstants.{MAX_INPUT_BYTES}
use Rattle.verdict_report.specs.declared.status.Status.{Status}
use Rattle.verdict_report.specs.Reading.{AppendsMoreThan, AppendsAtMost}
use Rattle.verdict_report.specs.Runs.{SourceRun, SinkRun, HandsOut, IsUntouched}

-- ---- reading

-- the source did not fail
abbrev pub IsUnfailing : SourceRun → Type 0
IsUnfailing source = source.failures_now ≡ source.failures_before

abbrev pub AreUnfailing : List SourceRun → Type 0
AreUnfailing [] = ⊤
AreUnfailing (source ∷ sources) = IsUnfailing source × AreUnfailing sources

abbrev pub AreUntouched : List SourceRun → Type 0
AreUntouched [] = ⊤
AreUntouched (source ∷ sources) = IsUntouched source × AreUntouched sources

-- the sources handed out these texts, each whole and within the limit, and none failed
abbrev pub HandOut : List SourceRun → List (List ℕ) → Type 0
HandOut [] [] = ⊤
HandOut (source ∷ sources) (text ∷ texts) = (HandsOut source text × IsUnfailing source) × HandOut sources texts
HandOut sources texts = ⊥

-- the source failed, within the limit
abbrev pub FailsWithinLimit : SourceRun → Type 0
FailsWithinLimit source = (source.failures_now ≡ source.failures_before + 1) × AppendsAtMost MAX_INPUT_BYTES source.before source.now

-- the source handed out more than the limit, and did not fail
abbrev pub PassesLimit : SourceRun → Type 0
PassesLimit source = AppendsMoreThan MAX_INPUT_BYTES source.before source.now × IsUnfailing source

-- reading stopped at a source of which this is so: those before it handed out their texts, and those after it were not touched
abbrev pub StopsReading : (SourceRun → Type 0) → List SourceRun → Type 0
StopsReading Stops [] = ⊥
StopsReading Stops (source ∷ sources) =
    (Stops source × AreUntouched sources) ⊎ (((text : List ℕ) × HandsOut source text × IsUnfailing source) × StopsReading Stops sources)

-- why reading stopped
abbrev pub IsStopOfReading : List SourceRun → ReadFault → Type 0
IsStopOfReading sources NoReadMemory = AreUnfailing sources
IsStopOfReading sources SourceFails = StopsReading FailsWithinLimit sources
IsStopOfReading sources TooLong = StopsReading PassesLimit sources

-- ---- writing

-- the sink took nothing and did not fail
abbrev pub TakesNothing : SinkRun → Type 0
TakesNothing sink = (sink.now ≡ sink.before) × (sink.failures_now ≡ sink.failures_before)

abbrev pub TakeNothing : List SinkRun → Type 0
TakeNothing [] = ⊤
TakeNothing (sink ∷ sinks) = TakesNothing sink × TakeNothing sinks

-- the sink took the text whole
abbrev pub TakesWhole : SinkRun → List ℕ → Type 0
TakesWhole sink text = (sink.now ≡ sink.before ++ text) × (sink.failures_now ≡ sink.failures_before)

abbrev pub TakeWhole : List SinkRun → List (List ℕ) → Type 0
TakeWhole [] [] = ⊤
TakeWhole (sink ∷ sinks) (text ∷ texts) = TakesWhole sink text × TakeWhole sinks texts
TakeWhole sinks texts = ⊥

-- the sink took a prefix of the text, and did not fail
abbrev pub TakesFront : SinkRun → List ℕ → Type 0
TakesFront sink text = AppendsFront sink.before sink.now text × (sink.failures_now ≡ sink.failures_before)

-- the sink took a prefix of the text, and failed
abbrev pub FailsBehindFront : SinkRun → List ℕ → Type 0
FailsBehindFront sink text = AppendsFront sink.before sink.now text × (sink.failures_now ≡ sink.failures_before + 1)

-- writing stopped at a sink of which this is so: those before it took their texts whole, and those after it took nothing
abbrev pub StopsWriting : (SinkRun → List ℕ → Type 0) → List SinkRun → List (List ℕ) → Type 0
StopsWriting Stops (sink ∷ sinks) (text ∷ texts) = (Stops sink text × TakeNothing sinks) ⊎ (TakesWhole sink text × StopsWriting Stops sinks texts)
StopsWriting Stops sinks texts = ⊥

-- ---- engines

-- what is said of one text, of two or of three, by the number of an engine's sources
abbrev pub of_one : {A : Type 0} → (List ℕ → Result A Fault → Type 0) → List (List ℕ) → Result A Fault → Type 0
of_one said (text ∷ []) answer = said text answer
of_one said texts answer = ⊥

abbrev pub of_two : {A : Type 0} → (List ℕ → List ℕ → Result A Fault → Type 0) → List (List ℕ) → Result A Fault → Type 0
of_two said (first ∷ second ∷ []) answer = said first second answer
of_two said texts answer = ⊥

abbrev pub of_three : {A : Type 0} → (List ℕ → List ℕ → List ℕ → Result A Fault → Type 0) → List (List ℕ) → Result A Fault → Type 0
of_three said (first ∷ second ∷ third ∷ []) answer = said first second third answer
of_three said texts answer = ⊥

-- the texts are made before any of them is written, or they are written while they are made
pub data Writing : Type 0 where
  AtOnce : Writing
  InPieces : Writing

-- the sources handed out texts of which this is said
pub record Reads {A : Type 0} (said : List (List ℕ) → Result A Fault → Type 0) (sources : List SourceRun) (answer : Result A Fault) : Type 0 where
  pub texts : List (List ℕ)
  pub handed : HandOut sources texts
  pub is_said : said texts answer

-- the texts of the answer were written, and the status is the one for it
pub record Answers {A : Type 0} (said : List (List ℕ) → Result A Fault → Type 0) (texts_of : A → List (List ℕ)) (status_of : A → Status) (sources : List SourceRun) (sinks : List SinkRun) (status : Status) : Type 0 where
  pub answer : A
  pub reads : Reads said sources (Ok answer)
  pub whole : TakeWhole sinks (texts_of answer)
  pub status_is : status ≡ status_of answer

-- writing the texts of the answer stopped at a sink of which this is so
pub record StopsAnswering {A : Type 0} (said : List (List ℕ) → Result A Fault → Type 0) (texts_of : A → List (List ℕ)) (Stops : SinkRun → List ℕ → Type 0) (sources : List SourceRun) (sinks : List SinkRun) : Type 0 where
  pub answer : A
  pub reads : Reads said sources (Ok answer)
  pub stopped : StopsWriting Stops sinks (texts_of answer)

-- there was no memory: nothing failed, and nothing was written; of texts that are written while they are made, a prefix may have been
abbrev pub LacksMemory : {A : Type 0} → Writing → (List (List ℕ) → Result A Fault → Type 0) → (A → List (List ℕ)) → List SourceRun → List SinkRun → Type 0
LacksMemory AtOnce said texts_of sources sinks = AreUnfailing sources × TakeNothing sinks
LacksMemory InPieces said texts_of sources sinks = (AreUnfailing sources × TakeNothing sinks) ⊎ StopsAnswering said texts_of TakesFront sources sinks

-- what the engine answers, by what its sources hand out and its sinks take
abbrev pub IsRunOfEngine : {A : Type 0} → Writing → (List (List ℕ) → Result A Fault → Type 0) → (A → List (List ℕ)) → (A → Status) → List SourceRun → List SinkRun → Result Status Fault → Type 0
IsRunOfEngine writing said texts_of status_of sources sinks (Ok status) = Answers said texts_of status_of sources sinks status
IsRunOfEngine writing said texts_of status_of sources sinks (Err OutOfMemory) = LacksMemory writing said texts_of sources sinks
IsRunOfEngine writing said texts_of status_of sources sinks (Err Device) =
    (StopsReading FailsWithinLimit sources × TakeNothing sinks) ⊎ StopsAnswering said texts_of FailsBehindFront sources sinks
IsRunOfEngine writing said texts_of status_of sources sinks (Err InputTooLong) = StopsReading PassesLimit sources × TakeNothing sinks
IsRunOfEngine writing said texts_of status_of sources sinks (Err fault) = Reads said sources (Err fault) × TakeNothing sinks

-- what becomes of writing a text to a sink, which this status goes with
abbrev pub IsRunOfWriting : List ℕ → Status → SinkRun → Result Status Fault → Type 0
IsRunOfWriting text status out (Ok found) = (found ≡ status) × TakesWhole out text
IsRunOfWriting text status out (Err OutOfMemory) = TakesNothing out
IsRunOfWriting text status out (Err Device) = FailsBehindFront out text
IsRunOfWriting text status out (Err fault) = ⊥
