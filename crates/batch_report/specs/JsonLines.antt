-- The lines of a batch as objects of JSON.
use Rattle.std.specs.Prelude.{◌≡◌, ◌⊎◌, ◌+◌, ℕ, List, [], ◌∷◌, ◌++◌, Option, None, Some, codes, decimal, refl, if◌then◌else◌}
use Rattle.batch_report.specs.declared.piece_verdict.PieceVerdict.{PieceVerdict}
use Rattle.batch_report.specs.declared.piece_verdict.PieceVerdict.TheVariants.{Consistent, Refuted, RefutedCore, Reasoned, Open, Undecided, Refused}
use Rattle.batch_report.specs.Findings.{Finding, LineMeaning}
use Rattle.dimacs.specs.declared.sink_fault.SinkFault.{SinkFault}
use Rattle.dimacs.specs.declared.sink_fault.SinkFault.TheVariants.{OutOfMemory as NoRoom}
use Rattle.json_text.specs.JsonString.{json_string}
use Rattle.text_lines.specs.Lines.{lines_of}
use Rattle.trace_pieces.specs.Pieces.{says}
use Rattle.verdict_report.specs.declared.fault.Fault.{Fault}
use Rattle.verdict_report.specs.declared.fault.Fault.TheVariants.{OutOfMemory}
use Rattle.verdict_report.specs.Fault.{area_of, name_of, number_of, place_of}

-- ---- where a trace stands

-- the place of the first of these lines that says something, behind a number of lines; if none does, the very first place
abbrev pub said_at : ℕ → List (List ℕ) → ℕ
said_at passed [] = 0
said_at passed (line ∷ lines) = if says line then passed else said_at (passed + 1) lines

-- the line of the first one of a piece that says something, which of a trace is its header; if none does, the first one
abbrev pub header_line : Finding → ℕ
header_line finding = finding.before + (said_at 0 (lines_of finding.piece) + 1)

-- ---- verdicts

-- a member that is a number
abbrev pub member : List ℕ → ℕ → List ℕ
member name number = codes ",\"" ++ (name ++ (codes "\":" ++ decimal number))

abbrev pub place_member : Option ℕ → List ℕ
place_member None = []
place_member (Some place) = member (codes "line") place

abbrev pub numbered_members : Option ℕ → List ℕ → Option ℕ → List ℕ
numbered_members None name place = []
numbered_members (Some number) name place = member (codes "number") number ++ (codes ",\"name\":\"" ++ (name ++ (codes "\"" ++ place_member place)))

abbrev pub area_object : Fault → List ℕ
area_object fault = codes "{\"area\":\"" ++ (area_of fault ++ (codes "\"" ++ (numbered_members (number_of fault) (name_of fault) (place_of fault) ++ codes "}")))

-- what a refusal has where it is printed: of memory and of a device the area alone
abbrev pub refusal_object : Fault → List ℕ
refusal_object OutOfMemory = codes "{\"area\":\"memory\"}"
refusal_object fault = area_object fault

abbrev pub json_verdict : PieceVerdict → List ℕ
json_verdict Consistent = codes "\"CONSISTENT\""
json_verdict (Refuted cubes) = codes "\"INCONSISTENT\"" ++ member (codes "cubes") cubes
json_verdict (RefutedCore operations cubes) = codes "\"INCONSISTENT\"" ++ (member (codes "operations") operations ++ member (codes "cubes") cubes)
json_verdict (Reasoned operations reasons) = codes "\"INCONSISTENT\"" ++ (member (codes "operations") operations ++ member (codes "reasons") reasons)
json_verdict (Open open_cubes) = codes "\"UNKNOWN\"" ++ member (codes "open") open_cubes
json_verdict (Undecided placed undecided) = codes "\"UNKNOWN\"" ++ (member (codes "placed") placed ++ member (codes "undecided") undecided)
json_verdict (Refused fault) = codes "\"refused\",\"refusal\":" ++ refusal_object fault

-- ---- lines

abbrev pub file_member : List ℕ → List ℕ
file_member file = codes "{\"file\":" ++ json_string file

abbrev pub place_members : ℕ → ℕ → List ℕ
place_members number line = member (codes "number") number ++ (member (codes "line") line ++ codes ",\"verdict\":")

-- the head of an object: where the trace stands, and its verdict
abbrev pub json_head : List ℕ → ℕ → Finding → List ℕ
json_head file number finding = file_member file ++ (place_members number (header_line finding) ++ json_verdict finding.verdict)

-- The line is an object of this head. Behind the head it may have any members, of which nothing is said.
abbrev pub is_json_line : List ℕ → ℕ → Finding → List ℕ → Type 0
is_json_line file number finding line = (members : List ℕ) × (line ≡ json_head file number finding ++ (members ++ codes "}\n"))

-- What is done for the members failed; or memory ran out before anything was done for them, or after it.
abbrev pub fails_at_object : {D : Type 0} → (D → D → Type 0) → (D → SinkFault → D → Type 0) → D → SinkFault → D → Type 0
fails_at_object moves fails from fault to = fails from fault to ⊎ ((fault ≡ NoRoom) × ((to ≡ from) ⊎ moves from to))

-- by what is done with devices for the members
abbrev pub json_meaning : {D : Type 0} → (D → D → Type 0) → (D → SinkFault → D → Type 0) → LineMeaning D
json_meaning moves fails = record {
  says = is_json_line;
  says_some = λ file number finding. (json_head file number finding ++ codes "}\n", ([], refl));
  moves = moves;
  fails = fails_at_object moves fails;
}
