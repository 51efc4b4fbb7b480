-- Why a line is refused before anything is opened.
use Rattle.std.specs.Borrow.{Bor}
use Rattle.std.specs.Prelude.{◌≡◌, ◌≢◌, ◌⊎◌, ℕ, Bool, false, true, not, ◌&&◌, List, [], ◌∷◌, Option, None, Some, codes, if◌then◌else◌}
use Rattle.command_line.specs.declared.line.BatchOutput.{BatchOutput}
use Rattle.command_line.specs.declared.line.CommandLine.{CommandLine}
use Rattle.command_line.specs.declared.line.Line.{Line}
use Rattle.command_line.specs.declared.line.Line.TheVariants.{Batch, Survey, Verify}
use Rattle.command_line.specs.declared.line.SurveyFiles.{SurveyFiles}
use Rattle.command_run.specs.declared.clash.Clash.{Clash}
use Rattle.command_run.specs.declared.clash.Clash.TheVariants.{CertIsHint, CertIsNames, CertIsPart, CertIsTrace, FolderIsUsed, InputTwice, NamesIsHint, NamesIsPart, NamesIsTrace, PartIsHint, PartIsTrace, PictureIsCert, PictureIsHint, PictureIsNames, PictureIsPart, PictureIsTrace, SchedulesWithoutJson}
use Rattle.command_host.specs.HostCalls.{HostCalls}
use Rattle.command_run.specs.Inputs.{reads_input_twice}

-- what is printed
abbrev pub clash_line : Clash → List ℕ
clash_line InputTwice = codes "error: more than one file is '-', standard input\n"
clash_line CertIsTrace = codes "error: --cert names the file of TRACE\n"
clash_line NamesIsTrace = codes "error: --names names the file of TRACE\n"
clash_line PartIsTrace = codes "error: --part names the file of TRACE\n"
clash_line CertIsNames = codes "error: --cert and --names name one file\n"
clash_line CertIsPart = codes "error: --cert and --part name one file\n"
clash_line NamesIsPart = codes "error: --names and --part name one file\n"
clash_line PictureIsTrace = codes "error: --picture names the file of TRACE\n"
clash_line PictureIsCert = codes "error: --picture and --cert name one file\n"
clash_line PictureIsNames = codes "error: --picture and --names name one file\n"
clash_line PictureIsPart = codes "error: --picture and --part name one file\n"
clash_line CertIsHint = codes "error: --cert and --hint name one file\n"
clash_line NamesIsHint = codes "error: --names and --hint name one file\n"
clash_line PartIsHint = codes "error: --part and --hint name one file\n"
clash_line PictureIsHint = codes "error: --picture and --hint name one file\n"
clash_line FolderIsUsed = codes "error: --keep names no folder that is new or empty\n"
clash_line SchedulesWithoutJson = codes "error: --schedules wants --json\n"

-- whether the files at two paths are one: the paths are the same, or else the host says that the files are
abbrev pub IsOneFile : {H I O : Type 0} → HostCalls H I O → H → List ℕ → List ℕ → Bool → H → Type 0
IsOneFile calls from first second one to =
    ((first ≡ second) × (one ≡ true) × (to ≡ from)) ⊎ ((first ≢ second) × calls.compares from first second one to)

-- the same of paths that may be missing: then they are not one
abbrev pub AreOneFile : {H I O : Type 0} → HostCalls H I O → H → Option (Bor (List ℕ)) → Option (Bor (List ℕ)) → Bool → H → Type 0
AreOneFile calls from (Some first) (Some second) one to = IsOneFile calls from first.now second.now one to
AreOneFile calls from first second one to = (one ≡ false) × (to ≡ from)

-- two paths that may be missing, and what it is if the files at them are one
pub record Pairing : Type 0 where
  pub first : Option (Bor (List ℕ))
  pub second : Option (Bor (List ℕ))
  pub clash : Clash

-- the files of a survey: none that is written is the trace's or the hint's, and no two of them are one
abbrev pub pairings_of_survey : Bor (List ℕ) → SurveyFiles → List Pairing
pairings_of_survey trace files =
    record { first = files.cert; second = Some trace; clash = CertIsTrace }
    ∷ record { first = files.names; second = Some trace; clash = NamesIsTrace }
    ∷ record { first = files.part; second = Some trace; clash = PartIsTrace }
    ∷ record { first = files.cert; second = files.names; clash = CertIsNames }
    ∷ record { first = files.cert; second = files.part; clash = CertIsPart }
    ∷ record { first = files.names; second = files.part; clash = NamesIsPart }
    ∷ record { first = files.cert; second = files.hint; clash = CertIsHint }
    ∷ record { first = files.names; second = files.hint; clash = NamesIsHint }
    ∷ record { first = files.part; second = files.hint; clash = PartIsHint }
    ∷ []

-- the files of a search with a certificate: that is not the trace's
abbrev pub pairings_of_verify : Bor (List ℕ) → Option (Bor (List ℕ)) → List Pairing
pairings_of_verify trace cert = record { first = cert; second = Some trace; clash = CertIsTrace } ∷ []

-- the files of a line that have to be apart, in the order in which they are compared
abbrev pub pairings_of : Line → List Pairing
pairings_of (Verify trace cert numbers progress) = pairings_of_verify trace cert
pairings_of (Survey trace files numbers progress) = pairings_of_survey trace files
pairings_of line = []

-- the file of a picture: it is none of the others
abbrev pub pairings_of_picture_and_verify : Option (Bor (List ℕ)) → Bor (List ℕ) → Option (Bor (List ℕ)) → List Pairing
pairings_of_picture_and_verify picture trace cert =
    record { first = picture; second = Some trace; clash = PictureIsTrace }
    ∷ record { first = picture; second = cert; clash = PictureIsCert }
    ∷ []

abbrev pub pairings_of_picture_and_survey : Option (Bor (List ℕ)) → Bor (List ℕ) → SurveyFiles → List Pairing
pairings_of_picture_and_survey picture trace files =
    record { first = picture; second = Some trace; clash = PictureIsTrace }
    ∷ record { first = picture; second = files.cert; clash = PictureIsCert }
    ∷ record { first = picture; second = files.names; clash = PictureIsNames }
    ∷ record { first = picture; second = files.part; clash = PictureIsPart }
    ∷ record { first = picture; second = files.hint; clash = PictureIsHint }
    ∷ []

abbrev pub pairings_of_picture : Option (Bor (List ℕ)) → Line → List Pairing
pairings_of_picture picture (Verify trace cert numbers progress) = pairings_of_picture_and_verify picture trace cert
pairings_of_picture picture (Survey trace files numbers progress) = pairings_of_picture_and_survey picture trace files
pairings_of_picture picture line = []

-- what is found is this clash if the files at the two paths are one, and else nothing
abbrev pub ClashesIfOne : {H I O : Type 0} → HostCalls H I O → H → Option (Bor (List ℕ)) → Option (Bor (List ℕ)) → Clash → Option Clash → H → Type 0
ClashesIfOne calls from first second clash found to =
    (one : Bool) × AreOneFile calls from first second one to × (found ≡ (if one then Some clash else None))

-- what is found is the clash that was found before, or, if there was none, this one if the files at the two paths are one
abbrev pub Compares : {H I O : Type 0} → HostCalls H I O → H → Option Clash → Option (Bor (List ℕ)) → Option (Bor (List ℕ)) → Clash → Option Clash → H → Type 0
Compares calls from (Some before) first second clash found to = (found ≡ Some before) × (to ≡ from)
Compares calls from None first second clash found to = ClashesIfOne calls from first second clash found to

-- what is found of all pairings, one after the other, after this was found before
abbrev pub FindsClash : {H I O : Type 0} → HostCalls H I O → H → Option Clash → List Pairing → Option Clash → H → Type 0
FindsClash calls from before [] found to = (found ≡ before) × (to ≡ from)
FindsClash {H} calls from before (p ∷ rest) found to =
    (next : Option Clash) × (between : H) × Compares calls from before p.first p.second p.clash next between × FindsClash calls between next rest found to

-- what is found of the files that are written: those of the line, and then that of the picture
abbrev pub ClashesOfWritten : {H I O : Type 0} → HostCalls H I O → H → CommandLine → Option Clash → H → Type 0
ClashesOfWritten {H} calls from asked found to =
    (own : Option Clash) × (between : H) × FindsClash calls from None (pairings_of asked.line) own between
    × FindsClash calls between own (pairings_of_picture asked.picture asked.line) found to

-- the folder of a batch, if there is one, has to be new or empty, as the host says
abbrev pub ClashesOfFolder : {H I O : Type 0} → HostCalls H I O → H → Option (Bor (List ℕ)) → Option Clash → H → Type 0
ClashesOfFolder calls from (Some folder) found to = (free : Bool) × calls.looks from folder.now free to × (found ≡ (if free then None else Some FolderIsUsed))
ClashesOfFolder calls from None found to = (found ≡ None) × (to ≡ from)

abbrev pub ClashesOfOutputIf : {H I O : Type 0} → (lacks_json : Bool) → HostCalls H I O → H → BatchOutput → Option Clash → H → Type 0
ClashesOfOutputIf true calls from output found to = (found ≡ Some SchedulesWithoutJson) × (to ≡ from)
ClashesOfOutputIf false calls from output found to = ClashesOfFolder calls from output.keep found to

-- what is found of what a batch writes beside its verdicts, if nothing was found before: schedules stand in objects of JSON alone, and then its folder
abbrev pub ClashesOfOutput : {H I O : Type 0} → HostCalls H I O → H → Option Clash → BatchOutput → Option Clash → H → Type 0
ClashesOfOutput calls from (Some before) output found to = (found ≡ Some before) × (to ≡ from)
ClashesOfOutput calls from None output found to = ClashesOfOutputIf (output.schedules && not output.json) calls from output found to

abbrev pub ClashesOfBatch : {H I O : Type 0} → HostCalls H I O → H → Option Clash → Line → Option Clash → H → Type 0
ClashesOfBatch calls from before (Batch traces numbers output) found to = ClashesOfOutput calls from before output found to
ClashesOfBatch calls from before line found to = (found ≡ before) × (to ≡ from)

-- why the line is refused, or nothing: first whether standard input would be read twice, then the files that are written, and then the folder of a batch
abbrev pub ClashesIf : {H I O : Type 0} → Bool → HostCalls H I O → H → CommandLine → Option Clash → H → Type 0
ClashesIf true calls from asked found to = (found ≡ Some InputTwice) × (to ≡ from)
ClashesIf {H} false calls from asked found to =
    (written : Option Clash) × (between : H) × ClashesOfWritten calls from asked written between × ClashesOfBatch calls between written asked.line found to

abbrev pub ClashesBy : {H I O : Type 0} → HostCalls H I O → H → CommandLine → Option Clash → H → Type 0
ClashesBy calls from asked found to = ClashesIf (reads_input_twice asked.line) calls from asked found to
