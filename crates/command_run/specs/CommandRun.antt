-- What a command does: the engine that it runs, on which files and with which options, what its standard streams take, and its exit
-- status.
use Rattle.std.specs.Borrow.{Bor}
use Rattle.std.specs.Prelude.{◌≡◌, ◌||◌, ◌⊎◌, ◌≤◌, ℕ, Bool, false, true, not, List, [], ◌∷◌, Option, None, Some, Result, Ok, Err, IfSome, is_some}
use Rattle.clap.specs.Walk.{texts}
use Rattle.clap.specs.Words.{takes}
use Rattle.clap.specs.declared.error.kind.ErrorKind.{ErrorKind}
use Rattle.clap.specs.declared.error.kind.ErrorKind.TheVariants.{OutOfMemory as NoMemoryToRead}
use Rattle.command_line.specs.CommandLine.{Asks, IsFaultOf, IsFaultless, is_explained, vsc_app}
use Rattle.command_line.specs.LineFault.{is_answer, text_on_memory}
use Rattle.command_line.specs.declared.line.CommandLine.{CommandLine}
use Rattle.command_line.specs.declared.line.Line.{Line}
use Rattle.command_line.specs.declared.line.Line.TheVariants.{Batch, Cnf, Decode, Judge, Lrat, Part, Recheck, Refusals, Survey, Verify}
use Rattle.command_line.specs.declared.line.SearchNumbers.{SearchNumbers}
use Rattle.command_line.specs.declared.line.SurveyFiles.{SurveyFiles}
use Rattle.command_line.specs.declared.line.SurveyNumbers.{SurveyNumbers}
use Rattle.verdict_report.specs.declared.fault.Fault.{Fault}
use Rattle.verdict_report.specs.declared.fault.Fault.TheVariants.{Device, OutOfMemory}
use Rattle.verdict_report.specs.declared.status.Status.{Status}
use Rattle.verdict_report.specs.declared.status.Status.TheVariants.{Unknown, Yes}
use Rattle.verdict_report.specs.CnfEngine.{IsRunOfCnf}
use Rattle.verdict_report.specs.DecodeEngine.{IsRunOfDecode}
use Rattle.verdict_report.specs.Engine.{FailsBehindFront, IsRunOfWriting, TakeNothing, TakesNothing, TakesWhole}
use Rattle.verdict_report.specs.Fault.{exit_status_of, line_of}
use Rattle.verdict_report.specs.JudgeEngine.{IsRunOfJudge}
use Rattle.verdict_report.specs.LratEngine.{IsRunOfLrat}
use Rattle.part_report.specs.PartEngine.{IsRunOfPart}
use Rattle.part_report.specs.PartRecheckEngine.{IsRunOfPartRecheck}
use Rattle.verdict_report.specs.RecheckEngine.{IsRunOfRecheck}
use Rattle.verdict_report.specs.Runs.{SourceRun, SinkRun}
use Rattle.verdict_report.specs.VerifyEngine.{IsRunOfCertifiedVerify, IsRunOfVerify, TellsOpen}
use Rattle.survey_report.specs.SurveyEngine.{IsRunOfCertifiedSurvey, IsRunOfSurvey, TellsExtent}
use Rattle.command_run.specs.declared.clash.Clash.{Clash}
use Rattle.command_run.specs.declared.inputs.SurveyInputs.{SurveyInputs}
use Rattle.command_host.specs.declared.search_request.SearchRequest.{SearchRequest}
use Rattle.command_run.specs.Clashes.{ClashesBy, clash_line}
use Rattle.command_run.specs.FormedRuns.{RunsBatchWith}
use Rattle.command_run.specs.ReadFiles.{ReadsFile}
use Rattle.command_host.specs.HostCalls.{HostCalls}
use Rattle.command_host.specs.Streams.{SinkView, SourceView}

-- ---- engines on files

-- an engine of one file, of two or of three, was run on the files at these paths, which were asked for in this order, and nothing else was
pub record RunsOnFile {H I O : Type 0} (calls : HostCalls H I O) (read : SourceView I) (IsRun : SourceRun → SinkRun → Result Status Fault → Type 0) (from : H) (path : List ℕ) (out : SinkRun) (outcome : Result Status Fault) (to : H) : Type 0 where
  pub file : SourceRun
  pub reads : ReadsFile calls read from path file to
  pub runs : IsRun file out outcome

pub record RunsOnFiles {H I O : Type 0} (calls : HostCalls H I O) (read : SourceView I) (IsRun : SourceRun → SourceRun → SinkRun → Result Status Fault → Type 0) (from : H) (first_path second_path : List ℕ) (out : SinkRun) (outcome : Result Status Fault) (to : H) : Type 0 where
  pub first : SourceRun
  pub between : H
  pub reads_first : ReadsFile calls read from first_path first between
  pub second : SourceRun
  pub reads_second : ReadsFile calls read between second_path second to
  pub runs : IsRun first second out outcome

pub record RunsOnThreeFiles {H I O : Type 0} (calls : HostCalls H I O) (read : SourceView I) (IsRun : SourceRun → SourceRun → SourceRun → SinkRun → Result Status Fault → Type 0) (from : H) (first_path second_path third_path : List ℕ) (out : SinkRun) (outcome : Result Status Fault) (to : H) : Type 0 where
  pub first : SourceRun
  pub after_first : H
  pub reads_first : ReadsFile calls read from first_path first after_first
  pub second : SourceRun
  pub after_second : H
  pub reads_second : ReadsFile calls read after_first second_path second after_second
  pub third : SourceRun
  pub reads_third : ReadsFile calls read after_second third_path third to
  pub runs : IsRun first second third out outcome

-- a certificate was checked for the trace itself or, if there is a path for names, for the part that these make up
abbrev pub RunsRecheck : {H I O : Type 0} → HostCalls H I O → SourceView I → H → List ℕ → List ℕ → Option (Bor (List ℕ)) → SinkRun → Result Status Fault → H → Type 0
RunsRecheck calls read from trace cert None out outcome to = RunsOnFiles calls read IsRunOfRecheck from trace cert out outcome to
RunsRecheck calls read from trace cert (Some names) out outcome to = RunsOnThreeFiles calls read IsRunOfPartRecheck from trace cert names.now out outcome to

-- This search was reported to the host, and the engine that decides traces was run on the file at this path. If nothing is decided, what
-- was taken names cubes that a search with these options can leave open.
pub record RunsSearch {H I O : Type 0} (calls : HostCalls H I O) (read : SourceView I) (from : H) (trace : List ℕ) (search : SearchRequest) (out : SinkRun) (outcome : Result Status Fault) (to : H) : Type 0 where
  pub file : SourceRun
  pub between : H
  pub reads : ReadsFile calls read from trace file between
  pub searches : calls.searches between search to
  pub runs : IsRunOfVerify file out outcome
  pub left_open : outcome ≡ Ok Unknown → TellsOpen search.options file out

-- the same, where the file at another path, which was made or emptied first, took the certificate, and was given back after a report or a
-- refusal
pub record RunsWithCertificate {H I O : Type 0} (calls : HostCalls H I O) (read : SourceView I) (wrote : SinkView O) (from : H) (trace cert : List ℕ) (search : SearchRequest) (out : SinkRun) (outcome : Result Status Fault) (to : H) : Type 0 where
  pub before : O
  pub after : O
  pub made : H
  pub makes : calls.makes from cert true before made
  pub no_byte_before : (wrote.run before after).before ≡ []
  pub no_failure_before : (wrote.run before after).failures_before ≡ 0
  pub path_is : wrote.path after ≡ cert
  pub file : SourceRun
  pub opened : H
  pub reads : ReadsFile calls read made trace file opened
  pub searched : H
  pub searches : calls.searches opened search searched
  pub runs : IsRunOfCertifiedVerify file (wrote.run before after) out outcome
  pub left_open : outcome ≡ Ok Unknown → TellsOpen search.options file out
  pub closes : calls.closes searched after to

-- that, or the file for the certificate could not be made: then nothing was read, and nothing written
abbrev pub RunsCertified : {H I O : Type 0} → HostCalls H I O → SourceView I → SinkView O → H → List ℕ → List ℕ → SearchRequest → SinkRun → Result Status Fault → H → Type 0
RunsCertified calls read wrote from trace cert search out outcome to =
    ((outcome ≡ Err Device) × TakesNothing out × calls.fails_to_make from cert to)
    ⊎ RunsWithCertificate calls read wrote from trace cert search out outcome to

-- the engine that decides traces was run, with a certificate if there is a path for it
abbrev pub RunsVerify : {H I O : Type 0} → HostCalls H I O → SourceView I → SinkView O → H → List ℕ → Option (Bor (List ℕ)) → SearchRequest → SinkRun → Result Status Fault → H → Type 0
RunsVerify calls read wrote from trace None search out outcome to = RunsSearch calls read from trace search out outcome to
RunsVerify calls read wrote from trace (Some cert) search out outcome to =
    RunsCertified calls read wrote from trace cert.now search out outcome to

-- ---- a survey on files

-- this survey was reported to the host, and the engine that decides long traces was run on the files of a trace and of a hint; if nothing is
-- decided, a search of the whole trace with these options need not decide it
pub record Surveys {H I O : Type 0} (calls : HostCalls H I O) (from : H) (file hint : SourceRun) (search : SearchRequest) (out : SinkRun) (outcome : Result Status Fault) (to : H) : Type 0 where
  pub searches : calls.searches from search to
  pub runs : IsRunOfSurvey file hint out outcome
  pub left_open : outcome ≡ Ok Unknown → TellsExtent search.options file out

-- the same, with what the sinks of the certificate, of the names and of the part did
pub record Certifies {H I O : Type 0} (calls : HostCalls H I O) (from : H) (file hint : SourceRun) (search : SearchRequest) (cert names part out : SinkRun) (outcome : Result Status Fault) (to : H) : Type 0 where
  pub searches : calls.searches from search to
  pub runs : IsRunOfCertifiedSurvey file hint cert names part out outcome
  pub left_open : outcome ≡ Ok Unknown → TellsExtent search.options file out

-- the file at this path was handed out to be read, and this was done with it; or there is no path, and this was done with a source that hands
-- out no byte and does not fail
abbrev pub WithHint : {H I O : Type 0} → HostCalls H I O → SourceView I → H → Option (Bor (List ℕ)) → (H → SourceRun → Type 0) → Type 0
WithHint {H} calls read from (Some path) Does = (hint : SourceRun) × (opened : H) × ReadsFile calls read from path.now hint opened × Does opened hint
WithHint calls read from None Does = (nothing : SourceRun) × (nothing.before ≡ []) × (nothing.now ≡ []) × (nothing.failures_before ≡ 0) × (nothing.failures_now ≡ 0) × Does from nothing

abbrev pub SurveysHinted : {H I O : Type 0} → HostCalls H I O → SourceView I → H → SourceRun → Option (Bor (List ℕ)) → SearchRequest → SinkRun → Result Status Fault → H → Type 0
SurveysHinted calls read from file path search out outcome to = WithHint calls read from path (λ opened hint. Surveys calls opened file hint search out outcome to)

abbrev pub CertifiesHinted : {H I O : Type 0} → HostCalls H I O → SourceView I → H → SourceRun → Option (Bor (List ℕ)) → SearchRequest → (cert names part out : SinkRun) → Result Status Fault → H → Type 0
CertifiesHinted calls read from file path search cert names part out outcome to =
    WithHint calls read from path (λ opened hint. Certifies calls opened file hint search cert names part out outcome to)

-- the file of the trace was handed out to be read, and then that of the hint if there is a path for it, and they were surveyed
pub record RunsSurveyed {H I O : Type 0} (calls : HostCalls H I O) (read : SourceView I) (from : H) (inputs : SurveyInputs) (search : SearchRequest) (out : SinkRun) (outcome : Result Status Fault) (to : H) : Type 0 where
  pub file : SourceRun
  pub between : H
  pub reads : ReadsFile calls read from inputs.trace.now file between
  pub surveys : SurveysHinted calls read between file inputs.hint search out outcome to

-- the same, with what the sinks of the certificate, of the names and of the part did
pub record CertifiesSurveyed {H I O : Type 0} (calls : HostCalls H I O) (read : SourceView I) (from : H) (inputs : SurveyInputs) (search : SearchRequest) (cert names part out : SinkRun) (outcome : Result Status Fault) (to : H) : Type 0 where
  pub file : SourceRun
  pub between : H
  pub reads : ReadsFile calls read from inputs.trace.now file between
  pub certifies : CertifiesHinted calls read between file inputs.hint search cert names part out outcome to

-- the file at this path was made or opened, this was done with it, and it was given back
pub record MakesFile {H I O : Type 0} (calls : HostCalls H I O) (wrote : SinkView O) (from : H) (path : List ℕ) (Does : H → SinkRun → H → Type 0) (outcome : Result Status Fault) (to : H) : Type 0 where
  pub before : O
  pub after : O
  pub made : H
  pub makes : calls.makes from path false before made
  pub no_byte_before : (wrote.run before after).before ≡ []
  pub no_failure_before : (wrote.run before after).failures_before ≡ 0
  pub path_is : wrote.path after ≡ path
  pub done : H
  pub does : Does made (wrote.run before after) done
  pub closes : calls.closes done after to

-- that, or it could not be made: then nothing else was done, and the other sinks took nothing; or there is no path, and this was done with
-- a sink that keeps nothing and does not fail
abbrev pub WithFile : {H I O : Type 0} → HostCalls H I O → SinkView O → H → Option (Bor (List ℕ)) → (H → SinkRun → H → Type 0) → List SinkRun → Result Status Fault → H → Type 0
WithFile calls wrote from (Some path) Does others outcome to =
    ((outcome ≡ Err Device) × TakeNothing others × calls.fails_to_make from path.now to) ⊎ MakesFile calls wrote from path.now Does outcome to
WithFile calls wrote from None Does others outcome to = (nowhere : SinkRun) × (nowhere.before ≡ []) × (nowhere.failures_before ≡ 0) × (nowhere.failures_now ≡ 0) × Does from nowhere to

-- with a file for the certificate, one for the names and one for the part: all are made in this order before the trace is opened, and are given back
-- in the other one
abbrev pub TakesCore : {H I O : Type 0} → HostCalls H I O → SourceView I → SinkView O → H → SurveyInputs → SurveyFiles → SearchRequest → SinkRun → Result Status Fault → H → Type 0
TakesCore calls read wrote from inputs files search out outcome to =
    WithFile calls wrote from files.cert (λ made_cert cert done_cert.
    WithFile calls wrote made_cert files.names (λ made_names names done_names.
    WithFile calls wrote made_names files.part (λ made part done. CertifiesSurveyed calls read made inputs search cert names part out outcome done)
    (out ∷ cert ∷ names ∷ []) outcome done_names)
    (out ∷ cert ∷ []) outcome done_cert)
    (out ∷ []) outcome to

-- no file is asked for that takes what shows an INCONSISTENT
abbrev pub takes_none : SurveyFiles → Bool
takes_none files = not (is_some files.cert || (is_some files.names || is_some files.part))

-- the files that are read
abbrev pub inputs_of_survey : Bor (List ℕ) → SurveyFiles → SurveyInputs
inputs_of_survey trace files = record { trace = trace; hint = files.hint }

-- the engine that decides long traces was run, with the files that are asked for
abbrev pub RunsSurveyIf : {H I O : Type 0} → Bool → HostCalls H I O → SourceView I → SinkView O → H → SurveyInputs → SurveyFiles → SearchRequest → SinkRun → Result Status Fault → H → Type 0
RunsSurveyIf true calls read wrote from inputs files search out outcome to = RunsSurveyed calls read from inputs search out outcome to
RunsSurveyIf false calls read wrote from inputs files search out outcome to =
    TakesCore calls read wrote from inputs files search out outcome to

abbrev pub RunsSurvey : {H I O : Type 0} → HostCalls H I O → SourceView I → SinkView O → H → Bor (List ℕ) → SurveyFiles → SearchRequest → SinkRun → Result Status Fault → H → Type 0
RunsSurvey calls read wrote from trace files search out outcome to =
    RunsSurveyIf (takes_none files) calls read wrote from (inputs_of_survey trace files) files search out outcome to

-- ---- a line

-- the search of these numbers, with its progress reported or not
abbrev pub search_of : SearchNumbers → Bool → SearchRequest
search_of numbers progress = record {
  options = record { workers = numbers.workers; split = numbers.split; budget = numbers.budget; rounds = numbers.rounds };
  tells_progress = progress;
  steps = None;
}

-- the survey of these numbers, with searches as those of `verify` without options
abbrev pub survey_of : SurveyNumbers → Bool → SearchRequest
survey_of numbers progress = record {
  options = record { workers = numbers.workers; split = 3; budget = 100000; rounds = 1 };
  tells_progress = progress;
  steps = Some numbers.budget;
}

-- a list was written whole, or standard output failed behind a prefix of it
abbrev pub WritesList : SinkRun → Result Status Fault → Type 0
WritesList out outcome = (text : List ℕ) × IsRunOfWriting text Yes out outcome

-- the engine that the line asks for was run on the files of its paths and with its options: what standard output took, the outcome, and
-- the host before and after
abbrev pub RunsLine : {H I O : Type 0} → HostCalls H I O → SourceView I → SinkView O → H → Line → SinkRun → Result Status Fault → H → Type 0
RunsLine calls read wrote from (Judge trace schedule) out outcome to = RunsOnFiles calls read IsRunOfJudge from trace.now schedule.now out outcome to
RunsLine calls read wrote from (Cnf trace workers) out outcome to = RunsOnFile calls read IsRunOfCnf from trace.now out outcome to
RunsLine calls read wrote from (Decode trace model) out outcome to = RunsOnFiles calls read IsRunOfDecode from trace.now model.now out outcome to
RunsLine calls read wrote from (Lrat cnf proof) out outcome to = RunsOnFiles calls read IsRunOfLrat from cnf.now proof.now out outcome to
RunsLine calls read wrote from (Recheck trace cert part) out outcome to = RunsRecheck calls read from trace.now cert.now part out outcome to
RunsLine calls read wrote from (Part trace names shows_names) out outcome to = RunsOnFiles calls read (IsRunOfPart shows_names) from trace.now names.now out outcome to
RunsLine calls read wrote from (Verify trace cert numbers progress) out outcome to =
    RunsVerify calls read wrote from trace.now cert (search_of numbers progress) out outcome to
RunsLine calls read wrote from (Survey trace files numbers progress) out outcome to =
    RunsSurvey calls read wrote from trace files (survey_of numbers progress) out outcome to
RunsLine calls read wrote from Refusals out outcome to = WritesList out outcome × (to ≡ from)
RunsLine calls read wrote from (Batch traces numbers output) out outcome to = RunsBatchWith calls read output from (texts traces.items) out outcome to

-- ---- standard streams and exit statuses

-- the stream took this text and nothing else, or a prefix of it, and then failed
abbrev pub Takes : SinkRun → List ℕ → Type 0
Takes stream text = TakesWhole stream text ⊎ FailsBehindFront stream text

-- what standard error takes of a refusal: its line
abbrev pub TellsFault : SinkRun → Fault → Type 0
TellsFault err fault = Takes err (line_of fault)

-- of an outcome that is no refusal it takes nothing
abbrev pub TellsOutcome : SinkRun → Result Status Fault → Type 0
TellsOutcome err (Ok status) = TakesNothing err
TellsOutcome err (Err fault) = TellsFault err fault

-- the line was run: standard output took what the engine wrote, standard error the line of a refusal, and the status is that of the outcome
pub record EndsRun {H I O : Type 0} (calls : HostCalls H I O) (read : SourceView I) (wrote : SinkView O) (from : H) (line : Line) (out err : SinkRun) (status : ℕ) (to : H) : Type 0 where
  pub outcome : Result Status Fault
  pub runs : RunsLine calls read wrote from line out outcome to
  pub tells : TellsOutcome err outcome
  pub status_is : status ≡ exit_status_of outcome

-- the stream took some text, of which nothing is said
abbrev pub Adds : SinkRun → Type 0
Adds stream = (text : List ℕ) × Takes stream text

-- what a stream did after a part of a run
abbrev pub after_run : SinkRun → SinkRun → SinkRun
after_run part whole = record {
  before = part.now;
  now = whole.now;
  failures_before = part.failures_now;
  failures_now = whole.failures_now;
}

-- a run of a stream begins with this part
pub record BeginsWith (whole part : SinkRun) : Type 0 where
  pub same_begin : whole.before ≡ part.before
  pub same_failures : whole.failures_before ≡ part.failures_before

-- The line was run as without an explanation, with the same status and the same text on standard output. Then standard error took an
-- explanation after the line of a refusal, and nothing more was asked of the host.
pub record EndsExplained {H I O : Type 0} (calls : HostCalls H I O) (read : SourceView I) (wrote : SinkView O) (from : H) (line : Line) (out err : SinkRun) (status : ℕ) (to : H) : Type 0 where
  pub told : SinkRun
  pub begins : BeginsWith err told
  pub ends : EndsRun calls read wrote from line out told status to
  pub adds : Adds (after_run told err)

-- standard error took the line of a refusal, and then an explanation
pub record TellsExplained (err : SinkRun) (outcome : Result Status Fault) : Type 0 where
  pub told : SinkRun
  pub begins : BeginsWith err told
  pub tells : TellsOutcome told outcome
  pub adds : Adds (after_run told err)

-- it took the line of a refusal, with an explanation or without
abbrev pub TellsEnded : Bool → SinkRun → Result Status Fault → Type 0
TellsEnded true err outcome = TellsExplained err outcome
TellsEnded false err outcome = TellsOutcome err outcome

-- the line was run, and its outcome was explained or not
abbrev pub EndsAsked : {H I O : Type 0} → Bool → HostCalls H I O → SourceView I → SinkView O → H → Line → (out err : SinkRun) → ℕ → H → Type 0
EndsAsked true calls read wrote from line out err status to = EndsExplained calls read wrote from line out err status to
EndsAsked false calls read wrote from line out err status to = EndsRun calls read wrote from line out err status to

-- What a picture's file took. After an answer that says whether there is a legal schedule, status 0 or 1, it took some text, of which nothing
-- is said, and after anything else nothing.
abbrev pub Draws : ℕ → SinkRun → Type 0
Draws status file = ((status ≤ 1) × Adds file) ⊎ ((2 ≤ status) × TakesNothing file)

-- The file at this path was made or opened, and then the line was run as without a picture: with the same status, and the same texts on the
-- standard streams. Then its outcome was drawn into this file and no other, and it was given back.
pub record EndsWithPicture {H I O : Type 0} (calls : HostCalls H I O) (read : SourceView I) (wrote : SinkView O) (terminal : Bool) (from : H) (path : List ℕ) (asked : CommandLine) (out err : SinkRun) (status : ℕ) (to : H) : Type 0 where
  pub before : O
  pub after : O
  pub made : H
  pub makes : calls.makes from path false before made
  pub no_byte_before : (wrote.run before after).before ≡ []
  pub no_failure_before : (wrote.run before after).failures_before ≡ 0
  pub path_is : wrote.path after ≡ path
  pub ran : H
  pub ends : EndsAsked (is_explained terminal asked.explains) calls read wrote made asked.line out err status ran
  pub draws : Draws status (wrote.run before after)
  pub closes : calls.closes ran after to

-- standard error took the line of a refusal, and then an explanation
pub record ExplainsFault (err : SinkRun) (fault : Fault) : Type 0 where
  pub told : SinkRun
  pub begins : BeginsWith err told
  pub tells : TellsFault told fault
  pub adds : Adds (after_run told err)

-- it took the line of a refusal, with an explanation or without
abbrev pub ReportsFault : Bool → SinkRun → Fault → Type 0
ReportsFault true err fault = ExplainsFault err fault
ReportsFault false err fault = TellsFault err fault

-- the file for the picture could not be made: the line was not run, and that is reported, with an explanation if one is asked for
pub record EndsWithoutFile {H I O : Type 0} (calls : HostCalls H I O) (explains : Bool) (from : H) (path : List ℕ) (out err : SinkRun) (status : ℕ) (to : H) : Type 0 where
  pub fails : calls.fails_to_make from path to
  pub nothing : TakesNothing out
  pub reports : ReportsFault explains err Device
  pub status_is : status ≡ 4

-- the line was run, with a picture in a file or without one, and explained or not, if standard error is a terminal or if it is none
abbrev pub EndsDrawn : {H I O : Type 0} → Option (Bor (List ℕ)) → HostCalls H I O → SourceView I → SinkView O → (terminal : Bool) → H → CommandLine → (out err : SinkRun) → ℕ → H → Type 0
EndsDrawn None calls read wrote terminal from asked out err status to =
    EndsAsked (is_explained terminal asked.explains) calls read wrote from asked.line out err status to
EndsDrawn (Some path) calls read wrote terminal from asked out err status to =
    EndsWithoutFile calls (is_explained terminal asked.explains) from path.now out err status to
    ⊎ EndsWithPicture calls read wrote terminal from path.now asked out err status to

-- the stream took this text whole, and the status is the given one, or it failed behind a prefix of it, and the status is 4
abbrev pub Prints : SinkRun → List ℕ → ℕ → ℕ → Type 0
Prints stream text status found = (TakesWhole stream text × (found ≡ status)) ⊎ (FailsBehindFront stream text × (found ≡ 4))

-- the line was refused for a clash of its files, or it was run
abbrev pub EndsCompared : {H I O : Type 0} → HostCalls H I O → SourceView I → SinkView O → (terminal : Bool) → H → CommandLine → Option Clash → (out err : SinkRun) → ℕ → H → Type 0
EndsCompared calls read wrote terminal from asked (Some clash) out err status to = TakesNothing out × Prints err (clash_line clash) 2 status × (to ≡ from)
EndsCompared calls read wrote terminal from asked None out err status to = EndsDrawn asked.picture calls read wrote terminal from asked out err status to

-- what is done for a line
pub record EndsLine {H I O : Type 0} (calls : HostCalls H I O) (read : SourceView I) (wrote : SinkView O) (terminal : Bool) (from : H) (asked : CommandLine) (out err : SinkRun) (status : ℕ) (to : H) : Type 0 where
  pub clash : Option Clash
  pub compared : H
  pub compares : ClashesBy calls from asked clash compared
  pub ends : EndsCompared calls read wrote terminal compared asked clash out err status to

-- this is the text of a fault of the command line, or what is known of it
abbrev pub IsTextOf : ErrorKind → List ℕ → Type 0
IsTextOf kind text = IfSome (text_on_memory kind) (λ known. text ≡ known)

-- The help or the version was printed on standard output, with the status 0, and any other text of a fault of the command line on standard
-- error, with the status 2; or there was no memory for the text, which was said on standard error. The other stream took nothing.
abbrev pub PrintsFault : Bool → (text : List ℕ) → (out err : SinkRun) → ℕ → Type 0
PrintsFault true text out err status = Prints out text 0 status × TakesNothing err
PrintsFault false text out err status = Prints err text 2 status × TakesNothing out

abbrev pub EndsFault : ErrorKind → (out err : SinkRun) → ℕ → Type 0
EndsFault kind out err status =
    ((text : List ℕ) × IsTextOf kind text × PrintsFault (is_answer kind) text out err status)
    ⊎ (TakesNothing out × Prints err (line_of OutOfMemory) 2 status)

-- the words ask for a line, which was run
pub record RunsWords {H I O : Type 0} (calls : HostCalls H I O) (read : SourceView I) (wrote : SinkView O) (terminal : Bool) (from : H) (words : List (List ℕ)) (out err : SinkRun) (status : ℕ) (to : H) : Type 0 where
  pub asked : CommandLine
  pub asks : Asks words asked
  pub faultless : IsFaultless words
  pub ends : EndsLine calls read wrote terminal from asked out err status to

-- `clap` finds a fault in the words, or there was no memory to read them: nothing was asked of the host
pub record RefusesWords {H : Type 0} (from : H) (words : List (List ℕ)) (out err : SinkRun) (status : ℕ) (to : H) : Type 0 where
  pub kind : ErrorKind
  pub fault : IsFaultOf words kind
  pub memory : takes vsc_app words ≡ true → kind ≡ NoMemoryToRead
  pub ends : EndsFault kind out err status
  pub untouched : to ≡ from

-- what the program does for the words of a command line, if standard error is a terminal or if it is none
abbrev pub EndsWords : {H I O : Type 0} → HostCalls H I O → SourceView I → SinkView O → (terminal : Bool) → H → List (List ℕ) → (out err : SinkRun) → ℕ → H → Type 0
EndsWords calls read wrote terminal from words out err status to =
    RunsWords calls read wrote terminal from words out err status to ⊎ RefusesWords from words out err status to
