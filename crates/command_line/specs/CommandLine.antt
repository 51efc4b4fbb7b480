-- The command line of `vsc`, in the words of `clap`.
use Rattle.std.specs.Prelude.{◌≡◌, ◌⊎◌, ◌≤◌, ⊤, IsSomeAnd, ℕ, Bool, List, [], ◌∷◌, Option, Some, codes, false, option_and_then, option_map, pos, true, unwrap_or}
use Rattle.std.specs.Str.Parse.{IsNumeral, digits_value, without_leading_plus}
use Rattle.clap.specs.Lexer.{usize_max}
use Rattle.clap.specs.Walk.{texts}
use Rattle.clap.specs.Words.{App, IsAmong, Rule, Text, all_of, fault_of, first_of, new_app, new_rule, subcommand_of, with_rule, with_subcommand}
use Rattle.clap.specs.Simple.{on_top}
use Rattle.clap.specs.Values.{bool_text}
use Rattle.clap.specs.declared.builder.action.ArgAction.TheVariants.{SetTrue}
use Rattle.clap.specs.declared.builder.value_parser.ValueParser.TheVariants.{Signed, Unsigned}
use Rattle.clap.specs.declared.error.kind.ErrorKind.{ErrorKind}
use Rattle.clap.specs.declared.error.kind.ErrorKind.TheVariants.{OutOfMemory}
use Rattle.command_line.specs.declared.explains.Explains.{Explains}
use Rattle.command_line.specs.declared.explains.Explains.TheVariants.{Always, IfTerminal, Never}
use Rattle.command_line.specs.declared.line.Line.{Line}
use Rattle.command_line.specs.declared.line.BatchNumbers.{BatchNumbers}
use Rattle.command_line.specs.declared.line.BatchOutput.{BatchOutput}
use Rattle.command_line.specs.declared.line.CommandLine.{CommandLine}
use Rattle.command_line.specs.declared.line.Line.TheVariants.{Batch, Cnf, Decode, Judge, Lrat, Part, Recheck, Refusals, Survey, Verify}
use Rattle.command_line.specs.declared.line.SearchNumbers.{SearchNumbers}
use Rattle.command_line.specs.declared.line.SurveyFiles.{SurveyFiles}
use Rattle.command_line.specs.declared.line.SurveyNumbers.{SurveyNumbers}

-- ---- the commands

-- an argument that stands at its place and has to be given
abbrev pub required_path : Text → Rule
required_path id = record (new_rule id) { value_names = 1; required = true }

-- an argument that has any number of paths at its place, and at least one
abbrev pub required_paths : Text → Rule
required_paths id = record (required_path id) { range = Some (record { start_inclusive = 1; end_inclusive = usize_max }) }

-- an option with a path, which may be left out
abbrev pub optional_path : Text → Rule
optional_path id = record (new_rule id) { long = Some id; value_names = 1 }

-- a flag that is given by this name
abbrev pub flag_rule : (id name : Text) → Rule
flag_rule id name = record (new_rule id) { long = Some name; action = Some SetTrue }

-- --explain and --no-explain, two flags, which each command has after its own arguments
abbrev pub explain_rule : Rule
explain_rule = flag_rule (codes "explain") (codes "explain")

abbrev pub no_explain_rule : Rule
no_explain_rule = flag_rule (codes "no-explain") (codes "no-explain")

abbrev pub explained : App → App
explained app = with_rule (with_rule app explain_rule) no_explain_rule

-- --cert FILE
abbrev pub cert_rule : Rule
cert_rule = optional_path (codes "cert")

-- --workers N, a number from 1 to 8, and 4 where it is not given
abbrev pub workers_rule : Rule
workers_rule = record (new_rule (codes "workers")) {
  long = Some (codes "workers");
  value_names = 1;
  defaults = codes "4" ∷ [];
  parser = Some (Signed (pos 1) (pos 8));
}

-- an option with a number in this range, and the text that stands for it where it is not given
abbrev pub number_rule : Text → Text → ℕ → ℕ → Rule
number_rule id default least most = record (new_rule id) {
  long = Some id;
  value_names = 1;
  defaults = default ∷ [];
  parser = Some (Unsigned least most);
}

-- --split N, a number from 0 to 10, and 3 where it is not given
abbrev pub split_rule : Rule
split_rule = number_rule (codes "split") (codes "3") 0 10

-- --budget N, a number from 0 to 1,000,000,000, and 100,000 where it is not given
abbrev pub budget_rule : Rule
budget_rule = number_rule (codes "budget") (codes "100000") 0 1000000000

-- --rounds N, a number from 1 to 4, and 1 where it is not given
abbrev pub rounds_rule : Rule
rounds_rule = number_rule (codes "rounds") (codes "1") 1 4

-- --progress, a flag
abbrev pub progress_rule : Rule
progress_rule = flag_rule (codes "progress") (codes "progress")

-- --picture FILE
abbrev pub picture_rule : Rule
picture_rule = optional_path (codes "picture")

-- verify TRACE [--cert FILE] [--workers N] [--split N] [--budget N] [--rounds N] [--progress] [--picture FILE]
abbrev pub verify_app : App
verify_app =
    with_rule (with_rule (with_rule (with_rule (with_rule (with_rule (with_rule (with_rule (new_app (codes "verify")) (required_path (codes "trace"))) cert_rule) workers_rule) split_rule) budget_rule) rounds_rule) progress_rule) picture_rule

-- judge TRACE SCHEDULE
abbrev pub judge_app : App
judge_app =
    with_rule (with_rule (new_app (codes "judge")) (required_path (codes "trace"))) (required_path (codes "schedule"))

-- cnf TRACE [--workers N]
abbrev pub cnf_app : App
cnf_app = with_rule (with_rule (new_app (codes "cnf")) (required_path (codes "trace"))) workers_rule

-- decode TRACE MODEL
abbrev pub decode_app : App
decode_app =
    with_rule (with_rule (new_app (codes "decode")) (required_path (codes "trace"))) (required_path (codes "model"))

-- lrat CNF PROOF
abbrev pub lrat_app : App
lrat_app = with_rule (with_rule (new_app (codes "lrat")) (required_path (codes "cnf"))) (required_path (codes "proof"))

-- --part NAMES of recheck, --part FILE of survey
abbrev pub part_rule : Rule
part_rule = optional_path (codes "part")

-- recheck TRACE CERT [--part NAMES]
abbrev pub recheck_app : App
recheck_app =
    with_rule (with_rule (with_rule (new_app (codes "recheck")) (required_path (codes "trace"))) (required_path (codes "cert"))) part_rule

-- --names, a flag, beside the path NAMES
abbrev pub show_names_rule : Rule
show_names_rule = flag_rule (codes "show-names") (codes "names")

-- part TRACE NAMES [--names]
abbrev pub part_app : App
part_app =
    with_rule (with_rule (with_rule (new_app (codes "part")) (required_path (codes "trace"))) (required_path (codes "names"))) show_names_rule

-- --names FILE
abbrev pub names_rule : Rule
names_rule = optional_path (codes "names")

-- --budget N of survey, a number from 0 to 1,000,000,000, and 1,000,000,000 where it is not given
abbrev pub steps_rule : Rule
steps_rule = number_rule (codes "budget") (codes "1000000000") 0 1000000000

-- --hint FILE
abbrev pub hint_rule : Rule
hint_rule = optional_path (codes "hint")

-- survey TRACE [--cert FILE] [--names FILE] [--part FILE] [--budget N] [--workers N] [--progress] [--picture FILE] [--hint FILE]
abbrev pub survey_app : App
survey_app =
    with_rule (with_rule (with_rule (with_rule (with_rule (with_rule (with_rule (with_rule (with_rule (new_app (codes "survey")) (required_path (codes "trace"))) cert_rule) names_rule) part_rule) steps_rule) workers_rule) progress_rule) picture_rule) hint_rule

-- refusals
abbrev pub refusals_app : App
refusals_app = new_app (codes "refusals")

-- --json, a flag
abbrev pub json_rule : Rule
json_rule = flag_rule (codes "json") (codes "json")

-- --schedules, a flag
abbrev pub schedules_rule : Rule
schedules_rule = flag_rule (codes "schedules") (codes "schedules")

-- --keep FOLDER
abbrev pub keep_rule : Rule
keep_rule = optional_path (codes "keep")

-- batch FILE.. [--workers N] [--split N] [--budget N] [--json] [--schedules] [--keep FOLDER]
abbrev pub batch_app : App
batch_app =
    with_rule (with_rule (with_rule (with_rule (with_rule (with_rule (with_rule (new_app (codes "batch")) (required_paths (codes "traces"))) workers_rule) split_rule) budget_rule) json_rule) schedules_rule) keep_rule

-- the program, which has a version and wants a command
abbrev pub program_app : App
program_app = on_top (λ s. record s { has_version = true; subcommand_required = true }) (new_app (codes "vsc"))

abbrev pub vsc_app : App
vsc_app =
    with_subcommand (with_subcommand (with_subcommand (with_subcommand (with_subcommand (with_subcommand (with_subcommand (with_subcommand (with_subcommand (with_subcommand program_app (explained verify_app).top) (explained judge_app).top) (explained cnf_app).top) (explained decode_app).top) (explained lrat_app).top) (explained recheck_app).top) (explained part_app).top) (explained survey_app).top) (explained refusals_app).top) (explained batch_app).top

-- ---- what the words ask for

-- the name of the command that the words name
abbrev pub command_in : List Text → Option Text
command_in words = option_map (λ p. p.0) (subcommand_of vsc_app words)

-- what the words give an argument of the command that they name, or else what stands for it
abbrev pub given_in : List Text → Text → Option Text
given_in words id = option_and_then (λ p. first_of id p.1) (subcommand_of vsc_app words)

-- all that they give it, in their order
abbrev pub all_given_in : List Text → Text → List Text
all_given_in words id = unwrap_or (option_and_then (λ p. all_of id p.1) (subcommand_of vsc_app words)) []

-- the command is to judge the schedule in one file against the trace in another
pub record AsksToJudge (command : Option Text) (given : Text → Option Text) (trace schedule : Text) : Type 0 where
  pub command_name : command ≡ Some (codes "judge")
  pub trace_path : given (codes "trace") ≡ Some trace
  pub schedule_path : given (codes "schedule") ≡ Some schedule

-- the text is the number in decimal digits, after a plus or none, and the number is in this range
pub record IsNumberWithin (least most : ℕ) (text : Text) (number : ℕ) : Type 0 where
  pub numeral : IsNumeral 10 (without_leading_plus text)
  pub value : number ≡ digits_value 10 (without_leading_plus text)
  pub above : least ≤ number
  pub below : number ≤ most

-- the command is to write the formula of the trace in a file, with this many threads
pub record AsksForCnf (command : Option Text) (given : Text → Option Text) (trace : Text) (workers : ℕ) : Type 0 where
  pub command_name : command ≡ Some (codes "cnf")
  pub trace_path : given (codes "trace") ≡ Some trace
  pub workers_text : IsSomeAnd (given (codes "workers")) (λ text. IsNumberWithin 1 8 text workers)

-- the command is to make a schedule of the trace in one file from the solver's answer in another
pub record AsksToDecode (command : Option Text) (given : Text → Option Text) (trace model : Text) : Type 0 where
  pub command_name : command ≡ Some (codes "decode")
  pub trace_path : given (codes "trace") ≡ Some trace
  pub model_path : given (codes "model") ≡ Some model

-- the command is to check the proof in one file that the formula in another has no model
pub record AsksToCheckProof (command : Option Text) (given : Text → Option Text) (cnf proof : Text) : Type 0 where
  pub command_name : command ≡ Some (codes "lrat")
  pub cnf_path : given (codes "cnf") ≡ Some cnf
  pub proof_path : given (codes "proof") ≡ Some proof

-- the command is to check that the certificate in one file shows that the trace in another has no legal schedule, by the trace itself or,
-- if a third file is given, by the part that the operations make up which it names
pub record AsksToRecheck (command : Option Text) (given : Text → Option Text) (trace cert : Text) (part : Option Text) : Type 0 where
  pub command_name : command ≡ Some (codes "recheck")
  pub trace_path : given (codes "trace") ≡ Some trace
  pub cert_path : given (codes "cert") ≡ Some cert
  pub part_path : given (codes "part") ≡ part

-- the command is to write the part of the trace in one file that the operations make up which another names, with or without their names
-- in the whole
pub record AsksForPart (command : Option Text) (given : Text → Option Text) (trace names : Text) (shows_names : Bool) : Type 0 where
  pub command_name : command ≡ Some (codes "part")
  pub trace_path : given (codes "trace") ≡ Some trace
  pub names_path : given (codes "names") ≡ Some names
  pub names_flag : given (codes "show-names") ≡ Some (bool_text shows_names)

-- the command is to decide whether the trace in a file has a legal schedule, by a search of these numbers, with or without its progress,
-- and with a file for the certificate or with none
pub record AsksToVerify (command : Option Text) (given : Text → Option Text) (trace : Text) (cert : Option Text) (numbers : SearchNumbers) (progress : Bool) : Type 0 where
  pub command_name : command ≡ Some (codes "verify")
  pub trace_path : given (codes "trace") ≡ Some trace
  pub cert_path : given (codes "cert") ≡ cert
  pub workers_text : IsSomeAnd (given (codes "workers")) (λ text. IsNumberWithin 1 8 text numbers.workers)
  pub split_text : IsSomeAnd (given (codes "split")) (λ text. IsNumberWithin 0 10 text numbers.split)
  pub budget_text : IsSomeAnd (given (codes "budget")) (λ text. IsNumberWithin 0 1000000000 text numbers.budget)
  pub rounds_text : IsSomeAnd (given (codes "rounds")) (λ text. IsNumberWithin 1 4 text numbers.rounds)
  pub progress_text : given (codes "progress") ≡ Some (bool_text progress)

-- The command is to decide, with the help of a survey and by these numbers, whether the trace in a file has a legal schedule, with or
-- without its progress, with a file or none for the certificate, for the names of a core, and for its part, and with a hint in a file or none.
pub record AsksToSurvey (command : Option Text) (given : Text → Option Text) (trace : Text) (files : SurveyFiles) (numbers : SurveyNumbers) (progress : Bool) : Type 0 where
  pub command_name : command ≡ Some (codes "survey")
  pub trace_path : given (codes "trace") ≡ Some trace
  pub cert_path : given (codes "cert") ≡ option_map (λ path. path.now) files.cert
  pub names_path : given (codes "names") ≡ option_map (λ path. path.now) files.names
  pub part_path : given (codes "part") ≡ option_map (λ path. path.now) files.part
  pub hint_path : given (codes "hint") ≡ option_map (λ path. path.now) files.hint
  pub budget_text : IsSomeAnd (given (codes "budget")) (λ text. IsNumberWithin 0 1000000000 text numbers.budget)
  pub workers_text : IsSomeAnd (given (codes "workers")) (λ text. IsNumberWithin 1 8 text numbers.workers)
  pub progress_text : given (codes "progress") ≡ Some (bool_text progress)

-- The command is to decide the traces in these files, in this order, by these numbers, with lines as objects of JSON or not, with schedules in them
-- or not, and with a folder for what shows each INCONSISTENT or with none.
pub record AsksForBatch (command : Option Text) (given : Text → Option Text) (all_given : Text → List Text) (traces : List Text) (numbers : BatchNumbers) (output : BatchOutput) : Type 0 where
  pub command_name : command ≡ Some (codes "batch")
  pub traces_paths : traces ≡ all_given (codes "traces")
  pub workers_text : IsSomeAnd (given (codes "workers")) (λ text. IsNumberWithin 1 8 text numbers.workers)
  pub split_text : IsSomeAnd (given (codes "split")) (λ text. IsNumberWithin 0 10 text numbers.split)
  pub budget_text : IsSomeAnd (given (codes "budget")) (λ text. IsNumberWithin 0 1000000000 text numbers.budget)
  pub json_text : given (codes "json") ≡ Some (bool_text output.json)
  pub schedules_text : given (codes "schedules") ≡ Some (bool_text output.schedules)
  pub keep_path : given (codes "keep") ≡ option_map (λ path. path.now) output.keep

-- a command with what is given for its arguments asks for the line
abbrev pub AsksFor : (command : Option Text) (given : Text → Option Text) (all_given : Text → List Text) → Line → Type 0
AsksFor command given all_given (Judge trace schedule) = AsksToJudge command given trace.now schedule.now
AsksFor command given all_given (Cnf trace workers) = AsksForCnf command given trace.now workers
AsksFor command given all_given (Decode trace model) = AsksToDecode command given trace.now model.now
AsksFor command given all_given (Lrat cnf proof) = AsksToCheckProof command given cnf.now proof.now
AsksFor command given all_given (Recheck trace cert part) = AsksToRecheck command given trace.now cert.now (option_map (λ path. path.now) part)
AsksFor command given all_given (Part trace names shows_names) = AsksForPart command given trace.now names.now shows_names
AsksFor command given all_given (Verify trace cert numbers progress) = AsksToVerify command given trace.now (option_map (λ path. path.now) cert) numbers progress
AsksFor command given all_given (Survey trace files numbers progress) = AsksToSurvey command given trace.now files numbers progress
AsksFor command given all_given Refusals = command ≡ Some (codes "refusals")
AsksFor command given all_given (Batch traces numbers output) = AsksForBatch command given all_given (texts traces.items) numbers output

-- it asks for an explanation by --explain, wherever standard error goes, for none by --no-explain alone, and by neither for one on a terminal
abbrev pub AsksToExplain : (given : Text → Option Text) → Explains → Type 0
AsksToExplain given Always = given (codes "explain") ≡ Some (bool_text true)
AsksToExplain given Never = (given (codes "explain") ≡ Some (bool_text false)) × (given (codes "no-explain") ≡ Some (bool_text true))
AsksToExplain given IfTerminal = (given (codes "explain") ≡ Some (bool_text false)) × (given (codes "no-explain") ≡ Some (bool_text false))

-- whether the answer is explained, if standard error is a terminal and if it is none
abbrev pub is_explained : (is_terminal : Bool) → Explains → Bool
is_explained is_terminal Always = true
is_explained is_terminal Never = false
is_explained is_terminal IfTerminal = is_terminal

-- it asks for the line, for an explanation of the answer or for none, and for a picture in a file or for none
pub record AsksWith (command : Option Text) (given : Text → Option Text) (all_given : Text → List Text) (asked : CommandLine) : Type 0 where
  pub line : AsksFor command given all_given asked.line
  pub explanation : AsksToExplain given asked.explains
  pub picture_path : given (codes "picture") ≡ option_map (λ path. path.now) asked.picture

-- the words ask for the line, with an explanation or without
abbrev pub Asks : List Text → CommandLine → Type 0
Asks words = AsksWith (command_in words) (given_in words) (all_given_in words)

-- the numbers of a search are in their ranges
pub record AreSearchNumbers (numbers : SearchNumbers) : Type 0 where
  pub some_workers : 1 ≤ numbers.workers
  pub few_workers : numbers.workers ≤ 8
  pub few_splits : numbers.split ≤ 10
  pub small_budget : numbers.budget ≤ 1000000000
  pub some_rounds : 1 ≤ numbers.rounds
  pub few_rounds : numbers.rounds ≤ 4

-- the numbers of a survey are in their ranges
pub record AreSurveyNumbers (numbers : SurveyNumbers) : Type 0 where
  pub some_workers : 1 ≤ numbers.workers
  pub few_workers : numbers.workers ≤ 8
  pub small_budget : numbers.budget ≤ 1000000000

-- the numbers of a batch are in their ranges
pub record AreBatchNumbers (numbers : BatchNumbers) : Type 0 where
  pub some_workers : 1 ≤ numbers.workers
  pub few_workers : numbers.workers ≤ 8
  pub few_splits : numbers.split ≤ 10
  pub small_budget : numbers.budget ≤ 1000000000

-- the numbers that a line asks for are in their ranges
abbrev pub IsWithinRanges : Line → Type 0
IsWithinRanges (Judge trace schedule) = ⊤
IsWithinRanges (Cnf trace workers) = (1 ≤ workers) × (workers ≤ 8)
IsWithinRanges (Decode trace model) = ⊤
IsWithinRanges (Lrat cnf proof) = ⊤
IsWithinRanges (Recheck trace cert part) = ⊤
IsWithinRanges (Part trace names shows_names) = ⊤
IsWithinRanges (Verify trace cert numbers progress) = AreSearchNumbers numbers
IsWithinRanges (Survey trace files numbers progress) = AreSurveyNumbers numbers
IsWithinRanges Refusals = ⊤
IsWithinRanges (Batch traces numbers output) = AreBatchNumbers numbers

-- ---- what is wrong with the words

-- `clap` finds no fault in the words
abbrev pub IsFaultless : List Text → Type 0
IsFaultless words = fault_of vsc_app words ≡ []

-- `clap` finds a fault of this kind in the words, or memory ran out
abbrev pub IsFaultOf : List Text → ErrorKind → Type 0
IsFaultOf words kind = (kind ≡ OutOfMemory) ⊎ IsAmong kind (fault_of vsc_app words)
