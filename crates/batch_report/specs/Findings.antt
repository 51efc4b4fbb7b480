-- What is found in a text, piece by piece, and the lines that say it in some form.
use Rattle.std.specs.Prelude.{◌≡◌, ◌⊎◌, ◌+◌, ℕ, Bool, true, List, [], ◌∷◌, ◌++◌, length, map, suc, zero}
use Rattle.batch_report.specs.BatchEngine.{EndsWith}
use Rattle.batch_report.specs.declared.block.DecidedPiece.{DecidedPiece}
use Rattle.batch_report.specs.declared.block.PlacedPiece.{PlacedPiece}
use Rattle.batch_report.specs.declared.piece_verdict.PieceVerdict.{PieceVerdict}
use Rattle.batch_report.specs.PieceVerdicts.{IsVerdictOn}
use Rattle.dimacs.specs.declared.sink_fault.SinkFault.{SinkFault}
use Rattle.text_lines.specs.Lines.{lines_of}
use Rattle.trace_pieces.specs.Pieces.{IsCut}
use Rattle.verdict_report.specs.Engine.{IsUnfailing}
use Rattle.verdict_report.specs.Runs.{SourceRun}

-- a piece of a text, the number of lines before it, and its verdict
pub record Finding : Type 0 where
  pub before : ℕ
  pub piece : List ℕ
  pub verdict : PieceVerdict

abbrev pub finding_of : DecidedPiece → Finding
finding_of found = record { before = found.piece.before; piece = found.piece.text.now; verdict = found.verdict }

-- of pieces, each with its verdict
abbrev pub findings_of : List PlacedPiece → List PieceVerdict → List Finding
findings_of [] verdicts = []
findings_of (piece ∷ pieces) [] = []
findings_of (piece ∷ pieces) (verdict ∷ verdicts) = finding_of (record { piece = piece; verdict = verdict }) ∷ findings_of pieces verdicts

abbrev pub verdicts_of : List Finding → List PieceVerdict
verdicts_of findings = map (λ (f : Finding). f.verdict) findings

-- ---- what is found

-- the finding is of the first piece of the text behind a number of lines, and this is so of what follows the piece
pub record NextFinding (before : ℕ) (text : List ℕ) (finding : Finding) (Others : ℕ → List ℕ → Type 0) : Type 0 where
  pub after : List ℕ
  pub cut : IsCut text finding.piece after
  pub before_is : finding.before ≡ before
  pub is_on : IsVerdictOn before finding.piece finding.verdict
  pub others : Others (before + length (lines_of finding.piece)) after

-- The findings are of the first pieces of the text behind a number of lines, in their order. What follows these pieces is the rest, and this
-- number of lines stand before that.
abbrev pub AreFoundOn : ℕ → List ℕ → List Finding → ℕ → List ℕ → Type 0
AreFoundOn before text [] before_rest rest = (text ≡ rest) × (before ≡ before_rest)
AreFoundOn before text (finding ∷ findings) before_rest rest = NextFinding before text finding (λ lines after. AreFoundOn lines after findings before_rest rest)

-- whatever follows the text, unless it is the last one, the findings are of its first pieces
abbrev pub AreFoundOff : Bool → ℕ → List ℕ → List Finding → ℕ → List ℕ → Type 0
AreFoundOff is_last before text findings before_rest rest = (more : List ℕ) → (is_last ≡ true → more ≡ []) → AreFoundOn before (text ++ more) findings before_rest (rest ++ more)

-- the source handed out a text of whose first pieces these are the findings, in their order; this is left of it, behind this number of lines
pub record AreFoundFirst (traces : SourceRun) (findings : List Finding) (lines : ℕ) (rest : List ℕ) : Type 0 where
  pub text : List ℕ
  pub handed : traces.now ≡ traces.before ++ text
  pub are_on : AreFoundOn 0 text findings lines rest

-- what is found at the end of a text of which this is left, behind this number of lines: nothing, or a refusal, of no piece, that stands there
abbrev pub EndsFound : SourceRun → (lines : ℕ) → (rest : List ℕ) → List Finding → Type 0
EndsFound traces lines rest [] = EndsWith traces rest []
EndsFound traces lines rest (last ∷ []) = (last.before ≡ lines) × (last.piece ≡ []) × EndsWith traces rest (last.verdict ∷ [])
EndsFound traces lines rest findings = ⊥

-- what is found in a text: a finding of each piece that was read, in their order, and what is found at its end
pub record AreAllFound (traces : SourceRun) (findings : List Finding) : Type 0 where
  pub of_pieces : List Finding
  pub lines : ℕ
  pub rest : List ℕ
  pub on_first : AreFoundFirst traces of_pieces lines rest
  pub ending : List Finding
  pub ends : EndsFound traces lines rest ending
  pub are : findings ≡ of_pieces ++ ending

-- some of what is found in a text: findings of first pieces of it, or all
abbrev pub AreSomeFound : SourceRun → List Finding → Type 0
AreSomeFound traces findings = (IsUnfailing traces × ((lines : ℕ) × (rest : List ℕ) × AreFoundFirst traces findings lines rest)) ⊎ AreAllFound traces findings

-- ---- what is said of it

-- What a form means. A line of it says something of a file, of the number of a piece there, and of what was found; there is one for all of these. For
-- each line something is done with devices, as those of the files that are kept beside the lines; or that fails, by a fault.
pub record LineMeaning (D : Type 0) : Type 1 where
  pub says : List ℕ → ℕ → Finding → List ℕ → Type 0
  pub says_some : (file : List ℕ) (number : ℕ) (finding : Finding) → (line : List ℕ) × says file number finding line
  pub moves : D → D → Type 0
  pub fails : D → SinkFault → D → Type 0

-- a line was put behind a text, and this is so of it
pub record PutsLine (Says : List ℕ → Type 0) (old new : List ℕ) : Type 0 where
  pub line : List ℕ
  pub put : new ≡ old ++ line
  pub says : Says line

-- the first line of the text says something of this finding under this number, and this is so of what follows the line
pub record NextLine (Says : ℕ → Finding → List ℕ → Type 0) (number : ℕ) (finding : Finding) (text : List ℕ) (Others : List ℕ → Type 0) : Type 0 where
  pub line : List ℕ
  pub after : List ℕ
  pub parts : text ≡ line ++ after
  pub says : Says number finding line
  pub others : Others after

-- the text has a line for each finding, in their order, behind others of the file
abbrev pub AreLines : (ℕ → Finding → List ℕ → Type 0) → ℕ → List Finding → List ℕ → Type 0
AreLines Says before [] text = text ≡ []
AreLines Says before (finding ∷ findings) text = NextLine Says (before + 1) finding text (λ after. AreLines Says (before + 1) findings after)

-- something was done with the devices for this number of lines
abbrev pub Reaches : {D : Type 0} → (D → D → Type 0) → ℕ → D → D → Type 0
Reaches moves zero from to = to ≡ from
Reaches {D} moves (suc count) from to = (between : D) × Reaches moves count from between × moves between to

-- something was done with the devices for some lines, and for the next one it failed
pub record FailsAtLine {D : Type 0} (means : LineMeaning D) (from : D) (fault : SinkFault) (to : D) : Type 0 where
  pub count : ℕ
  pub between : D
  pub reached : Reaches means.moves count from between
  pub failed : means.fails between fault to
