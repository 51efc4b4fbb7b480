-- A batch whose lines have some form, and beside which files may be kept.
use Rattle.std.specs.Borrow.{Bor}
use Rattle.std.specs.Prelude.{◌≡◌, ◌⊎◌, ◌||◌, ℕ, Bool, false, true, List, [], ◌∷◌, ◌++◌, Option, None, Some, Result, Err, is_some, length, refl}
use Rattle.batch_report.specs.BatchLines.{batch_line}
use Rattle.batch_report.specs.FormedBatch.{EndsEarly, IsRunOfFormed, device_run}
use Rattle.batch_report.specs.Findings.{AreAllFound, AreLines, AreSomeFound, Finding, LineMeaning, Reaches, verdicts_of}
use Rattle.batch_report.specs.JsonLines.{json_meaning}
use Rattle.batch_report.specs.Outcome.{no_tally, outcome as outcome_of, tally_with_all}
use Rattle.batch_report.specs.PlainLines.{is_plain_line}
use Rattle.batch_report.specs.declared.tally.VerdictTally.{VerdictTally}
use Rattle.command_host.specs.HostCalls.{HostCalls}
use Rattle.command_host.specs.Streams.{SourceView}
use Rattle.command_line.specs.declared.line.BatchOutput.{BatchOutput}
use Rattle.command_run.specs.BatchRuns.{RunsBatch}
use Rattle.command_run.specs.ReadFiles.{ReadsFile}
use Rattle.dimacs.specs.Sink.{AppendsFront}
use Rattle.dimacs.specs.declared.sink_fault.SinkFault.{SinkFault}
use Rattle.kept_files.specs.KeptFiles.{KeepsWithin}
use Rattle.verdict_report.specs.Engine.{TakesNothing, TakesWhole}
use Rattle.verdict_report.specs.Fault.{fault_of_sink}
use Rattle.verdict_report.specs.Runs.{SourceRun, SinkRun}
use Rattle.verdict_report.specs.declared.fault.Fault.{Fault}
use Rattle.verdict_report.specs.declared.fault.Fault.TheVariants.{Device}
use Rattle.verdict_report.specs.declared.status.Status.{Status}

-- ---- what a line says

-- files may have been kept in some folder, and nothing else was asked of the host
abbrev pub KeepsSome : {H I O : Type 0} → HostCalls H I O → H → H → Type 0
KeepsSome calls from to = (folder : List ℕ) × KeepsWithin calls folder from to

-- the same, where that failed
abbrev pub FailsToKeep : {H I O : Type 0} → HostCalls H I O → H → SinkFault → H → Type 0
FailsToKeep calls from fault to = KeepsSome calls from to

-- plain lines, or objects of JSON, beside which files may be kept
abbrev pub meaning_of : {H I O : Type 0} → Bool → HostCalls H I O → LineMeaning H
meaning_of true calls = json_meaning (KeepsSome calls) (FailsToKeep calls)
meaning_of false calls = record {
  says = is_plain_line;
  says_some = λ file number finding. (batch_line file number finding.verdict, refl);
  moves = KeepsSome calls;
  fails = FailsToKeep calls;
}

-- ---- files

-- the files at these paths were handed out to be read, one after the other; this was found in each, and for each finding something was done with the host
abbrev pub FindsFormed : {H I O : Type 0} → HostCalls H I O → SourceView I → LineMeaning H → H → List (List ℕ) → List (List Finding) → H → Type 0
FindsFormed calls read means from [] [] to = to ≡ from
FindsFormed {H} calls read means from (path ∷ paths) (findings ∷ others) to =
    (file : SourceRun) × (opened : H) × (between : H) × ReadsFile calls read from path file opened × AreAllFound file findings
    × Reaches means.moves (length findings) opened between × FindsFormed calls read means between paths others to
FindsFormed calls read means from paths found to = ⊥

-- the text has the lines of what was found, file by file
abbrev pub AreLinesOfFiles : {H : Type 0} → LineMeaning H → List (List ℕ) → List (List Finding) → List ℕ → Type 0
AreLinesOfFiles means [] [] text = text ≡ []
AreLinesOfFiles means (path ∷ paths) (findings ∷ others) text =
    (lines : List ℕ) × (after : List ℕ) × (text ≡ lines ++ after) × AreLines (means.says path) 0 findings lines × AreLinesOfFiles means paths others after
AreLinesOfFiles means paths found text = ⊥

-- what was found in all of them
abbrev pub all_found : List (List Finding) → List Finding
all_found [] = []
all_found (findings ∷ others) = findings ++ all_found others

-- each file was read, standard output took a line for each finding, and the outcome is that of all findings
pub record FinishesFormedFiles {H I O : Type 0} (calls : HostCalls H I O) (read : SourceView I) (means : LineMeaning H) (from : H) (paths : List (List ℕ)) (out : SinkRun) (result : Result Status Fault) (to : H) : Type 0 where
  pub found : List (List Finding)
  pub finds : FindsFormed calls read means from paths found to
  pub text : List ℕ
  pub lines : AreLinesOfFiles means paths found text
  pub whole : TakesWhole out text
  pub result_is : result ≡ outcome_of (verdicts_of (all_found found))

-- Some files were read, and in the next one lines ended early. Standard output took a front of the lines of those files and of some findings in this
-- one, and no other file was handed out.
pub record StopsInFormedFile {H I O : Type 0} (calls : HostCalls H I O) (read : SourceView I) (means : LineMeaning H) (from : H) (paths : List (List ℕ)) (out : SinkRun) (result : Result Status Fault) (to : H) : Type 0 where
  pub first : List (List ℕ)
  pub path : List ℕ
  pub further : List (List ℕ)
  pub paths_are : paths ≡ first ++ path ∷ further
  pub found : List (List Finding)
  pub between : H
  pub finds : FindsFormed calls read means from first found between
  pub file : SourceRun
  pub opened : H
  pub reads : ReadsFile calls read between path file opened
  pub findings : List Finding
  pub some : AreSomeFound file findings
  pub text : List ℕ
  pub lines_before : AreLinesOfFiles means first found text
  pub last_text : List ℕ
  pub lines : AreLines (means.says path) 0 findings last_text
  pub front : AppendsFront out.before out.now (text ++ last_text)
  pub fault : SinkFault
  pub stop : EndsEarly means (device_run opened to) out fault
  pub result_is : result ≡ Err (fault_of_sink fault)

-- the engine that decides many traces was run on the files at these paths, in their order, with lines of this meaning
abbrev pub RunsFormed : {H I O : Type 0} → HostCalls H I O → SourceView I → LineMeaning H → H → List (List ℕ) → SinkRun → Result Status Fault → H → Type 0
RunsFormed calls read means from paths out result to =
    FinishesFormedFiles calls read means from paths out result to ⊎ StopsInFormedFile calls read means from paths out result to

-- ---- a line of `batch`

-- the folder at this path was made first, and this was done; or it could not be made, and nothing else was done; or there is no path
abbrev pub WithFolder : {H I O : Type 0} → HostCalls H I O → H → Option (Bor (List ℕ)) → (H → Type 0) → SinkRun → Result Status Fault → H → Type 0
WithFolder {H} calls from (Some folder) Does out result to =
    ((result ≡ Err Device) × TakesNothing out × calls.fails_to_make from folder.now to) ⊎ ((made : H) × calls.makes_folder from folder.now made × Does made)
WithFolder calls from None Does out result to = Does from

-- more than plain lines is asked for
abbrev pub asks_more : BatchOutput → Bool
asks_more output = output.json || is_some output.keep

abbrev pub RunsBatchIf : {H I O : Type 0} → Bool → HostCalls H I O → SourceView I → BatchOutput → H → List (List ℕ) → SinkRun → Result Status Fault → H → Type 0
RunsBatchIf false calls read output from paths out result to = RunsBatch calls read from paths out result to
RunsBatchIf true calls read output from paths out result to =
    WithFolder calls from output.keep (λ made. RunsFormed calls read (meaning_of output.json calls) made paths out result to) out result to

-- the engine that decides many traces was run: with plain lines alone, or with what else is asked for
abbrev pub RunsBatchWith : {H I O : Type 0} → HostCalls H I O → SourceView I → BatchOutput → H → List (List ℕ) → SinkRun → Result Status Fault → H → Type 0
RunsBatchWith calls read output from paths out result to = RunsBatchIf (asks_more output) calls read output from paths out result to

-- ---- as it goes on

-- the folder was made, or there is no path for one, and nothing was asked of the host
abbrev pub MakesAskedFolder : {H I O : Type 0} → HostCalls H I O → H → Option (Bor (List ℕ)) → H → Type 0
MakesAskedFolder calls from (Some folder) to = calls.makes_folder from folder.now to
MakesAskedFolder calls from None to = to ≡ from

-- the file at this path was handed out to be read, and its traces were decided, after this was counted
pub record DecidesFormed {H I O : Type 0} (calls : HostCalls H I O) (read : SourceView I) (means : LineMeaning H) (from : H) (path : List ℕ) (counted : VerdictTally) (out : SinkRun) (result : Result VerdictTally SinkFault) (to : H) : Type 0 where
  pub file : SourceRun
  pub opened : H
  pub reads : ReadsFile calls read from path file opened
  pub runs : IsRunOfFormed means path file counted (device_run opened to) out result

-- these files were read, standard output took their lines, and the findings were counted
pub record HasFormed {H I O : Type 0} (calls : HostCalls H I O) (read : SourceView I) (means : LineMeaning H) (from : H) (paths : List (List ℕ)) (tally : VerdictTally) (out : SinkRun) (to : H) : Type 0 where
  pub found : List (List Finding)
  pub finds : FindsFormed calls read means from paths found to
  pub text : List ℕ
  pub lines : AreLinesOfFiles means paths found text
  pub whole : TakesWhole out text
  pub tallied : tally ≡ tally_with_all no_tally (verdicts_of (all_found found))
