-- A batch on files: what the engine that decides many traces was run on, and what standard output took.
use Rattle.std.specs.Prelude.{◌≡◌, ◌⊎◌, ◌+◌, List, [], ◌∷◌, ◌++◌, ℕ, Result, Err}
use Rattle.batch_report.specs.BatchEngine.{AreFindings, AreSomeFindings, IsRunOfBatch}
use Rattle.batch_report.specs.BatchLines.{batch_lines}
use Rattle.batch_report.specs.Outcome.{no_tally, outcome as outcome_of, tally_with_all}
use Rattle.batch_report.specs.declared.piece_verdict.PieceVerdict.{PieceVerdict}
use Rattle.batch_report.specs.declared.tally.VerdictTally.{VerdictTally}
use Rattle.command_host.specs.HostCalls.{HostCalls}
use Rattle.command_host.specs.Streams.{SourceView}
use Rattle.command_run.specs.ReadFiles.{ReadsFile}
use Rattle.dimacs.specs.Sink.{AppendsFront}
use Rattle.dimacs.specs.SinkFault.{failures_told}
use Rattle.dimacs.specs.declared.sink_fault.SinkFault.{SinkFault}
use Rattle.verdict_report.specs.Engine.{TakesWhole}
use Rattle.verdict_report.specs.Fault.{fault_of_sink}
use Rattle.verdict_report.specs.Runs.{SourceRun, SinkRun}
use Rattle.verdict_report.specs.declared.fault.Fault.{Fault}
use Rattle.verdict_report.specs.declared.status.Status.{Status}

-- the files at these paths were handed out to be read, one after the other, and this was found in each
abbrev pub FindsInFiles : {H I O : Type 0} → HostCalls H I O → SourceView I → H → List (List ℕ) → List (List PieceVerdict) → H → Type 0
FindsInFiles calls read from [] [] to = to ≡ from
FindsInFiles {H} calls read from (path ∷ paths) (findings ∷ others) to =
    (file : SourceRun) × (between : H) × ReadsFile calls read from path file between × AreFindings file findings × FindsInFiles calls read between paths others to
FindsInFiles calls read from paths found to = ⊥

-- the lines of what was found, file by file
abbrev pub lines_of_files : List (List ℕ) → List (List PieceVerdict) → List ℕ
lines_of_files (path ∷ paths) (findings ∷ others) = batch_lines path 0 findings ++ lines_of_files paths others
lines_of_files paths found = []

-- what was found in all of them
abbrev pub all_findings : List (List PieceVerdict) → List PieceVerdict
all_findings [] = []
all_findings (findings ∷ others) = findings ++ all_findings others

-- each file was read, standard output took a line for each finding, and the outcome is that of all findings
pub record FinishesFiles {H I O : Type 0} (calls : HostCalls H I O) (read : SourceView I) (from : H) (paths : List (List ℕ)) (out : SinkRun) (result : Result Status Fault) (to : H) : Type 0 where
  pub found : List (List PieceVerdict)
  pub finds : FindsInFiles calls read from paths found to
  pub whole : TakesWhole out (lines_of_files paths found)
  pub result_is : result ≡ outcome_of (all_findings found)

-- Some files were read, and in the next one standard output failed, or there was no memory. It took a front of the lines of those files and of some
-- findings in this one, and no other file was handed out.
pub record StopsInFile {H I O : Type 0} (calls : HostCalls H I O) (read : SourceView I) (from : H) (paths : List (List ℕ)) (out : SinkRun) (result : Result Status Fault) (to : H) : Type 0 where
  pub first : List (List ℕ)
  pub path : List ℕ
  pub further : List (List ℕ)
  pub paths_are : paths ≡ first ++ path ∷ further
  pub found : List (List PieceVerdict)
  pub between : H
  pub finds : FindsInFiles calls read from first found between
  pub file : SourceRun
  pub reads : ReadsFile calls read between path file to
  pub findings : List PieceVerdict
  pub some : AreSomeFindings file findings
  pub front : AppendsFront out.before out.now (lines_of_files first found ++ batch_lines path 0 findings)
  pub fault : SinkFault
  pub failures : out.failures_now ≡ out.failures_before + failures_told fault
  pub result_is : result ≡ Err (fault_of_sink fault)

-- the engine that decides many traces was run on the files at these paths, in their order
abbrev pub RunsBatch : {H I O : Type 0} → HostCalls H I O → SourceView I → H → List (List ℕ) → SinkRun → Result Status Fault → H → Type 0
RunsBatch calls read from paths out result to = FinishesFiles calls read from paths out result to ⊎ StopsInFile calls read from paths out result to

-- as it goes on: the file at this path was handed out to be read, and its traces were decided, after this was counted
pub record DecidesFile {H I O : Type 0} (calls : HostCalls H I O) (read : SourceView I) (from : H) (path : List ℕ) (counted : VerdictTally) (out : SinkRun) (result : Result VerdictTally SinkFault) (to : H) : Type 0 where
  pub file : SourceRun
  pub reads : ReadsFile calls read from path file to
  pub runs : IsRunOfBatch path file counted out result

-- these files were read, standard output took their lines, and the findings were counted
pub record HasDecided {H I O : Type 0} (calls : HostCalls H I O) (read : SourceView I) (from : H) (paths : List (List ℕ)) (tally : VerdictTally) (out : SinkRun) (to : H) : Type 0 where
  pub found : List (List PieceVerdict)
  pub finds : FindsInFiles calls read from paths found to
  pub whole : TakesWhole out (lines_of_files paths found)
  pub tallied : tally ≡ tally_with_all no_tally (all_findings found)
