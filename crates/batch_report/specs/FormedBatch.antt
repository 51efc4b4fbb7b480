-- What the engine that decides many traces answers and writes, in any form.
use Rattle.std.specs.Prelude.{◌≡◌, ◌⊎◌, ◌+◌, ℕ, Bool, true, List, [], ◌∷◌, ◌++◌, length, Result, Ok, Err}
use Rattle.batch_report.specs.declared.piece_verdict.PieceVerdict.TheVariants.{Refused}
use Rattle.batch_report.specs.declared.progress.BatchProgress.{BatchProgress}
use Rattle.batch_report.specs.declared.tally.VerdictTally.{VerdictTally}
use Rattle.batch_report.specs.Findings.{AreAllFound, AreFoundOff, AreLines, AreSomeFound, FailsAtLine, Finding, LineMeaning, Reaches, verdicts_of}
use Rattle.batch_report.specs.Outcome.{tally_with, tally_with_all}
use Rattle.dimacs.specs.declared.sink_fault.SinkFault.{SinkFault}
use Rattle.dimacs.specs.Sink.{AppendsFront}
use Rattle.dimacs.specs.SinkFault.{failures_told}
use Rattle.verdict_report.specs.declared.fault.Fault.{Fault}
use Rattle.verdict_report.specs.Engine.{IsUnfailing, TakesWhole}
use Rattle.verdict_report.specs.Runs.{SinkRun, SourceRun}

-- what was done with devices: how they were before and are now
pub record DeviceRun (D : Type 0) : Type 0 where
  pub before : D
  pub now : D

abbrev pub device_run : {D : Type 0} → D → D → DeviceRun D
device_run old new = record { before = old; now = new }

-- the sink took the lines of these findings, behind others of the file, and for each of them something was done with the devices
pub record WritesLines {D : Type 0} (means : LineMeaning D) (file : List ℕ) (number : ℕ) (findings : List Finding) (devices : DeviceRun D) (out : SinkRun) : Type 0 where
  pub text : List ℕ
  pub lines : AreLines (means.says file) number findings text
  pub whole : TakesWhole out text
  pub moved : Reaches means.moves (length findings) devices.before devices.now

-- Lines end early: the sink failed, or there was no memory; or it was well, and what is done for a line failed.
abbrev pub EndsEarly : {D : Type 0} → LineMeaning D → DeviceRun D → SinkRun → SinkFault → Type 0
EndsEarly means devices out fault =
    (((count : ℕ) × Reaches means.moves count devices.before devices.now) × (out.failures_now ≡ out.failures_before + failures_told fault))
    ⊎ (FailsAtLine means devices.before fault devices.now × (out.failures_now ≡ out.failures_before))

-- the sink took a front of the lines of some findings, and then lines ended early
pub record StopsLines {D : Type 0} (means : LineMeaning D) (file : List ℕ) (number : ℕ) (findings : List Finding) (devices : DeviceRun D) (out : SinkRun) (fault : SinkFault) : Type 0 where
  pub text : List ℕ
  pub lines : AreLines (means.says file) number findings text
  pub front : AppendsFront out.before out.now text
  pub stop : EndsEarly means devices out fault

-- the sink took a line for each finding, and they were counted
pub record FinishesFormed {D : Type 0} (means : LineMeaning D) (file : List ℕ) (traces : SourceRun) (counted : VerdictTally) (devices : DeviceRun D) (out : SinkRun) (tally : VerdictTally) : Type 0 where
  pub findings : List Finding
  pub are : AreAllFound traces findings
  pub writes : WritesLines means file 0 findings devices out
  pub tallied : tally ≡ tally_with_all counted (verdicts_of findings)

-- the sink took a front of the lines of some findings, and then lines ended early
pub record StopsFormed {D : Type 0} (means : LineMeaning D) (file : List ℕ) (traces : SourceRun) (devices : DeviceRun D) (out : SinkRun) (fault : SinkFault) : Type 0 where
  pub findings : List Finding
  pub some : AreSomeFound traces findings
  pub stops : StopsLines means file 0 findings devices out fault

-- what the engine answers, by what its source hands out, what is done with the devices, and what its sink takes, if this was counted before
abbrev pub IsRunOfFormed : {D : Type 0} → LineMeaning D → (file : List ℕ) → SourceRun → VerdictTally → DeviceRun D → SinkRun → Result VerdictTally SinkFault → Type 0
IsRunOfFormed means file traces counted devices out (Ok tally) = FinishesFormed means file traces counted devices out tally
IsRunOfFormed means file traces counted devices out (Err fault) = StopsFormed means file traces devices out fault

-- ---- as it goes on

-- these are the findings of the next pieces of what is held, and the sink took their lines
pub record WritesBlock {D : Type 0} (means : LineMeaning D) (file : List ℕ) (is_last : Bool) (held : List ℕ) (from to : BatchProgress) (left : List ℕ) (devices : DeviceRun D) (out : SinkRun) : Type 0 where
  pub findings : List Finding
  pub each : AreFoundOff is_last from.before held findings to.before left
  pub writes : WritesLines means file from.number findings devices out
  pub counted : to.number ≡ from.number + length findings
  pub tallied : to.tally ≡ tally_with_all from.tally (verdicts_of findings)

-- the sink took a front of the lines of next pieces, and then lines ended early
pub record StopsBlock {D : Type 0} (means : LineMeaning D) (file : List ℕ) (is_last : Bool) (held : List ℕ) (from : BatchProgress) (devices : DeviceRun D) (out : SinkRun) (fault : SinkFault) : Type 0 where
  pub findings : List Finding
  pub before_left : ℕ
  pub left : List ℕ
  pub each : AreFoundOff is_last from.before held findings before_left left
  pub stops : StopsLines means file from.number findings devices out fault

-- the refusal of what is left behind the pieces so far
abbrev pub refusal_behind : BatchProgress → Fault → Finding
refusal_behind from fault = record { before = from.before; piece = []; verdict = Refused fault }

-- the sink took the line of a refusal at the end of the text, which was counted
abbrev pub WritesRefusal : {D : Type 0} → LineMeaning D → (file : List ℕ) → BatchProgress → Fault → VerdictTally → DeviceRun D → SinkRun → Type 0
WritesRefusal means file from fault tally devices out =
    WritesLines means file from.number (refusal_behind from fault ∷ []) devices out × (tally ≡ tally_with from.tally (Refused fault))

-- it took a front of it, and then lines ended early
abbrev pub StopsRefusal : {D : Type 0} → LineMeaning D → (file : List ℕ) → BatchProgress → Fault → DeviceRun D → SinkRun → SinkFault → Type 0
StopsRefusal means file from fault devices out stop = StopsLines means file from.number (refusal_behind from fault ∷ []) devices out stop

-- The source handed out a text, and these are the findings of its first pieces, which were counted; this is held of it, and the sink took their
-- lines.
pub record HasCome {D : Type 0} (means : LineMeaning D) (file : List ℕ) (counted_before : VerdictTally) (traces : SourceRun) (held : List ℕ) (is_last : Bool) (progress : BatchProgress) (devices : DeviceRun D) (out : SinkRun) : Type 0 where
  pub text : List ℕ
  pub handed : traces.now ≡ traces.before ++ text
  pub ended : is_last ≡ true → traces.is_at_end ≡ true
  pub unfailing : IsUnfailing traces
  pub findings : List Finding
  pub each : AreFoundOff is_last 0 text findings progress.before held
  pub writes : WritesLines means file 0 findings devices out
  pub counted : progress.number ≡ length findings
  pub tallied : progress.tally ≡ tally_with_all counted_before (verdicts_of findings)
