-- What is said of a piece of a text, which should be a trace.
use Rattle.std.specs.Prelude.{◌≡◌, ◌+◌, ⊤, ℕ, List, length}
use Rattle.batch_report.specs.declared.piece_verdict.PieceVerdict.{PieceVerdict}
use Rattle.batch_report.specs.declared.piece_verdict.PieceVerdict.TheVariants.{Consistent, Refuted, RefutedCore, Reasoned, Open, Undecided, Refused}
use Rattle.cube_tree.specs.CubeTree.{leaves}
use Rattle.survey_verdict.specs.declared.surveyed.Surveyed.{Surveyed}
use Rattle.survey_verdict.specs.declared.surveyed.Surveyed.TheVariants.{Decided, Refuted as CoreRefuted, Reasoned as ByReasons, Undecided as NothingShown}
use Rattle.trace_decision.specs.declared.decision.Decision.{Decision}
use Rattle.trace_decision.specs.declared.decision.Decision.TheVariants.{Consistent as HasSchedule, Inconsistent as HasNone, Unknown as NotDecided}
use Rattle.trace_semantics.specs.declared.operation.OpName.{OpName}
use Rattle.trace_semantics.specs.Legal.{HasNoSchedule, IsLegal}
use Rattle.trace_semantics.specs.Trace.{TraceValue, IsTrace}
use Rattle.trace_text.specs.TraceFault.{HasTraceFault}
use Rattle.trace_text.specs.declared.trace_fault.TraceCause.{TraceCause}
use Rattle.trace_text.specs.TraceText.{SpellsTrace}
use Rattle.verdict_report.specs.declared.fault.Fault.{Fault}
use Rattle.verdict_report.specs.declared.fault.Fault.TheVariants.{OutOfMemory, Trace, Search}

-- ---- what decisions say

abbrev pub verdict_of_decision : Decision → PieceVerdict
verdict_of_decision (HasSchedule schedule) = Consistent
verdict_of_decision (HasNone refutation) = Refuted (leaves refutation.tree)
verdict_of_decision (NotDecided cubes) = Open (length cubes)

abbrev pub verdict_of_surveyed : Surveyed → PieceVerdict
verdict_of_surveyed (Decided decision) = verdict_of_decision decision
verdict_of_surveyed (CoreRefuted core) = RefutedCore (length core.names) (leaves core.refutation.tree)
verdict_of_surveyed (ByReasons reasons) = Reasoned reasons.operations reasons.clauses
verdict_of_surveyed (NothingShown extent) = Undecided extent.placed extent.undecided

-- ---- what a verdict means

-- The verdict is so of the trace: it has a legal schedule, or it has none. Nothing is said if it is not decided. A trace is refused if there is no
-- memory, or if the search has no results.
abbrev pub IsVerdictOf : TraceValue → PieceVerdict → Type 0
IsVerdictOf t Consistent = (schedule : List OpName) × IsLegal t schedule
IsVerdictOf t (Refuted cubes) = HasNoSchedule t
IsVerdictOf t (RefutedCore operations cubes) = HasNoSchedule t
IsVerdictOf t (Reasoned operations reasons) = HasNoSchedule t
IsVerdictOf t (Open open_cubes) = ⊤
IsVerdictOf t (Undecided placed undecided) = ⊤
IsVerdictOf t (Refused OutOfMemory) = ⊤
IsVerdictOf t (Refused (Search cause)) = ⊤
IsVerdictOf t (Refused fault) = ⊥

-- the text spells a trace of which the verdict is so
pub record SpellsDecided (text : List ℕ) (verdict : PieceVerdict) : Type 0 where
  pub value : TraceValue
  pub is_trace : IsTrace value
  pub spelled : SpellsTrace text value
  pub is_so : IsVerdictOf value verdict

-- the text has this fault in the line that is the given one of a longer text, in which this number of lines stand before it
pub record HasFaultBehind (before : ℕ) (text : List ℕ) (fault : Fault) : Type 0 where
  pub cause : TraceCause
  pub line : ℕ
  pub has : HasTraceFault text cause line
  pub fault_is : fault ≡ Trace cause (before + line)

-- The verdict is so of a piece behind a number of lines: the piece spells a trace of which it is so, or the piece has this fault; or
-- there was no memory.
abbrev pub IsVerdictOn : ℕ → List ℕ → PieceVerdict → Type 0
IsVerdictOn before text Consistent = SpellsDecided text Consistent
IsVerdictOn before text (Refuted cubes) = SpellsDecided text (Refuted cubes)
IsVerdictOn before text (RefutedCore operations cubes) = SpellsDecided text (RefutedCore operations cubes)
IsVerdictOn before text (Reasoned operations reasons) = SpellsDecided text (Reasoned operations reasons)
IsVerdictOn before text (Open open_cubes) = SpellsDecided text (Open open_cubes)
IsVerdictOn before text (Undecided placed undecided) = SpellsDecided text (Undecided placed undecided)
IsVerdictOn before text (Refused OutOfMemory) = ⊤
IsVerdictOn before text (Refused (Trace cause line)) = HasFaultBehind before text (Trace cause line)
IsVerdictOn before text (Refused fault) = SpellsDecided text (Refused fault)
