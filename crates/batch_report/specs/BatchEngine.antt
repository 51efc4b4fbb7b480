-- What the engine that decides many traces answers and writes.
use Rattle.std.specs.Prelude.{◌≡◌, ◌⊎◌, ◌+◌, ◌<◌, ℕ, true, List, [], ◌∷◌, ◌++◌, length, Result, Ok, Err}
use Rattle.batch_report.specs.BatchLines.{batch_lines}
use Rattle.batch_report.specs.Blocks.{AreVerdictsOn}
use Rattle.batch_report.specs.declared.piece_verdict.PieceVerdict.{PieceVerdict}
use Rattle.batch_report.specs.declared.piece_verdict.PieceVerdict.TheVariants.{Refused}
use Rattle.batch_report.specs.declared.tally.VerdictTally.{VerdictTally}
use Rattle.batch_report.specs.Outcome.{tally_with_all}
use Rattle.dimacs.specs.declared.sink_fault.SinkFault.{SinkFault}
use Rattle.dimacs.specs.Sink.{AppendsFront}
use Rattle.dimacs.specs.SinkFault.{failures_told}
use Rattle.verdict_report.specs.declared.fault.Fault.TheVariants.{OutOfMemory, Device, InputTooLong}
use Rattle.verdict_report.specs.declared.reading.TheConstants.{MAX_INPUT_BYTES}
use Rattle.verdict_report.specs.Engine.{IsUnfailing, TakesWhole}
use Rattle.verdict_report.specs.Runs.{SinkRun, SourceRun}

-- the source handed out a text whose first pieces have these verdicts, in their order, and this is left of it
pub record AreOnFirst (traces : SourceRun) (verdicts : List PieceVerdict) (rest : List ℕ) : Type 0 where
  pub text : List ℕ
  pub handed : traces.now ≡ traces.before ++ text
  pub lines : ℕ
  pub are_on : AreVerdictsOn 0 text verdicts lines rest

-- What is found at the end of a text of which this is left: nothing, if all of it was read; or else one more refusal. That says why no more was read:
-- there was no memory; the source failed; or what is left is too long.
abbrev pub EndsWith : SourceRun → (rest : List ℕ) → List PieceVerdict → Type 0
EndsWith traces rest [] = (traces.is_at_end ≡ true) × IsUnfailing traces × (rest ≡ [])
EndsWith traces rest (Refused OutOfMemory ∷ []) = IsUnfailing traces
EndsWith traces rest (Refused Device ∷ []) = traces.failures_now ≡ traces.failures_before + 1
EndsWith traces rest (Refused InputTooLong ∷ []) = IsUnfailing traces × (MAX_INPUT_BYTES < length rest)
EndsWith traces rest findings = ⊥

-- what is found in a text: a verdict on each piece that was read, in their order, and what is found at its end
pub record AreFindings (traces : SourceRun) (findings : List PieceVerdict) : Type 0 where
  pub verdicts : List PieceVerdict
  pub rest : List ℕ
  pub on_first : AreOnFirst traces verdicts rest
  pub ending : List PieceVerdict
  pub ends : EndsWith traces rest ending
  pub are : findings ≡ verdicts ++ ending

-- some of what is found in a text: verdicts on first pieces of it, or all
abbrev pub AreSomeFindings : SourceRun → List PieceVerdict → Type 0
AreSomeFindings traces findings = (IsUnfailing traces × ((rest : List ℕ) × AreOnFirst traces findings rest)) ⊎ AreFindings traces findings

-- the sink took a line for each finding, and they were counted
pub record FinishesBatch (file : List ℕ) (traces : SourceRun) (counted : VerdictTally) (out : SinkRun) (tally : VerdictTally) : Type 0 where
  pub findings : List PieceVerdict
  pub are : AreFindings traces findings
  pub whole : TakesWhole out (batch_lines file 0 findings)
  pub tallied : tally ≡ tally_with_all counted findings

-- the sink took a front of the lines of some findings, and then it failed, or there was no memory
pub record StopsBatch (file : List ℕ) (traces : SourceRun) (out : SinkRun) (fault : SinkFault) : Type 0 where
  pub findings : List PieceVerdict
  pub some : AreSomeFindings traces findings
  pub front : AppendsFront out.before out.now (batch_lines file 0 findings)
  pub failures : out.failures_now ≡ out.failures_before + failures_told fault

-- what the engine answers, by what its source hands out and its sink takes, if this was counted before
abbrev pub IsRunOfBatch : (file : List ℕ) → SourceRun → VerdictTally → SinkRun → Result VerdictTally SinkFault → Type 0
IsRunOfBatch file traces counted out (Ok tally) = FinishesBatch file traces counted out tally
IsRunOfBatch file traces counted out (Err fault) = StopsBatch file traces out fault
