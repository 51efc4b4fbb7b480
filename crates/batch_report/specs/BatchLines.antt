-- The lines of a batch.
use Rattle.std.specs.Prelude.{ℕ, ◌+◌, List, [], ◌∷◌, ◌++◌, codes, decimal}
use Rattle.batch_report.specs.declared.piece_verdict.PieceVerdict.{PieceVerdict}
use Rattle.batch_report.specs.declared.piece_verdict.PieceVerdict.TheVariants.{Consistent, Refuted, RefutedCore, Reasoned, Open, Undecided, Refused}
use Rattle.survey_verdict.specs.Surveyed.{core_line, reasons_line}
use Rattle.trace_decision.specs.Decision.{unknown_line}
use Rattle.verdict_report.specs.Fault.{line_of}

-- what is said of a piece, as `verify` and `survey` say it in their first lines
abbrev pub verdict_line : PieceVerdict → List ℕ
verdict_line Consistent = codes "CONSISTENT\n"
verdict_line (Refuted cubes) = codes "INCONSISTENT cubes=" ++ (decimal cubes ++ codes "\n")
verdict_line (RefutedCore operations cubes) = core_line operations cubes
verdict_line (Reasoned operations reasons) = reasons_line operations reasons
verdict_line (Open open_cubes) = unknown_line open_cubes
verdict_line (Undecided placed undecided) = codes "UNKNOWN placed=" ++ (decimal placed ++ (codes " undecided=" ++ (decimal undecided ++ codes "\n")))
verdict_line (Refused fault) = line_of fault

-- where a piece stands: the file, and the number of the piece in it
abbrev pub place_text : List ℕ → ℕ → List ℕ
place_text file number = file ++ (codes ":" ++ (decimal number ++ codes " "))

-- the line of a piece
abbrev pub batch_line : List ℕ → ℕ → PieceVerdict → List ℕ
batch_line file number verdict = place_text file number ++ verdict_line verdict

-- the lines of pieces in their order, behind others of the file
abbrev pub batch_lines : List ℕ → ℕ → List PieceVerdict → List ℕ
batch_lines file before [] = []
batch_lines file before (verdict ∷ verdicts) = batch_line file (before + 1) verdict ++ batch_lines file (before + 1) verdicts
