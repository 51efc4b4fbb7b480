-- What is said of a trace beside its verdict.
use Rattle.std.specs.Prelude.{◌≡◌, ℕ, List}
use Rattle.cube_jobs.specs.Options.{OptionsValue}
use Rattle.piece_details.specs.declared.details.PieceDetails.{PieceDetails}
use Rattle.piece_details.specs.declared.shown_lines.ShownLines.{ShownLines}
use Rattle.piece_details.specs.declared.shown_lines.ShownLines.TheVariants.{Core, NoLines, OpenCubes, Schedule}
use Rattle.survey_verdict.specs.Surveyed.{IsSurveyed, core_names, survey_certificate, survey_report}
use Rattle.survey_verdict.specs.declared.surveyed.Surveyed.{Surveyed}
use Rattle.survey_verdict.specs.declared.surveyed.Surveyed.TheVariants.{Decided, Reasoned, Refuted, Undecided}
use Rattle.trace_decision.specs.Decision.{IsDecided}
use Rattle.trace_decision.specs.declared.decision.Decision.TheVariants.{Consistent, Inconsistent, Unknown}
use Rattle.trace_semantics.specs.Trace.{TraceValue, IsTrace}
use Rattle.trace_text.specs.TraceText.{SpellsTrace}

-- this is decided of the trace, by a search or with the help of a survey
abbrev pub IsShown : TraceValue → Surveyed → Type 0
IsShown t (Decided decision) = (options : OptionsValue) × IsDecided options t decision
IsShown t (Refuted core) = (options : OptionsValue) × IsSurveyed options t (Refuted core)
IsShown t (Reasoned reasons) = (options : OptionsValue) × IsSurveyed options t (Reasoned reasons)
IsShown t (Undecided extent) = (options : OptionsValue) × IsSurveyed options t (Undecided extent)

-- what the lines of the report behind its first one name
abbrev pub lines_shown : Surveyed → ShownLines
lines_shown (Decided (Consistent schedule)) = Schedule
lines_shown (Decided (Inconsistent refutation)) = NoLines
lines_shown (Decided (Unknown cubes)) = OpenCubes
lines_shown (Refuted core) = Core
lines_shown (Reasoned reasons) = Core
lines_shown (Undecided extent) = NoLines

-- The text spells a trace, of which something is decided. The report, the certificate and the names of the core are the ones that are written of
-- that: so the certificate is accepted for the trace or, if there are names, for the part that they make up.
pub record AreDetailsOf (text : List ℕ) (details : PieceDetails) : Type 0 where
  pub value : TraceValue
  pub is_trace : IsTrace value
  pub spelled : SpellsTrace text value
  pub surveyed : Surveyed
  pub shown : IsShown value surveyed
  pub lines : details.lines ≡ lines_shown surveyed
  pub report : details.report.items ≡ survey_report surveyed
  pub certificate : details.certificate.items ≡ survey_certificate surveyed
  pub names : details.names.items ≡ core_names surveyed
