-- What the engine that translates traces answers and writes.
use Rattle.std.specs.Prelude.{◌≡◌, ◌↔◌, ℕ, Bool, List, [], ◌∷◌, ◌++◌, IsTrue, Result}
use Rattle.dimacs.specs.CnfText.{cnf_text}
use Rattle.dimacs.specs.Formula.{FormulaValue, is_formula}
use Rattle.dimacs.specs.Models.{IsModel}
use Rattle.trace_semantics.specs.declared.operation.OpName.{OpName}
use Rattle.trace_semantics.specs.Legal.{IsLegal}
use Rattle.trace_semantics.specs.Trace.{TraceValue, IsTrace}
use Rattle.trace_text.specs.TraceText.{SpellsTrace}
use Rattle.reducer.specs.Reduced.{ReducedValue}
use Rattle.verdict_report.specs.declared.fault.Fault.{Fault}
use Rattle.verdict_report.specs.declared.status.Status.{Status}
use Rattle.verdict_report.specs.declared.status.Status.TheVariants.{Yes}
use Rattle.verdict_report.specs.Admitted.{Admits, IsReducedFrom, cnf_of}
use Rattle.verdict_report.specs.Engine.{InPieces, IsRunOfEngine, of_one}
use Rattle.verdict_report.specs.Runs.{SourceRun, SinkRun, HandsOut}

-- the source handed out an admitted text, and this is the text of its trace's clause list
pub record Translates (trace : SourceRun) (cnf : List ℕ) : Type 0 where
  pub text : List ℕ
  pub handed : HandsOut trace text
  pub value : TraceValue
  pub admitted : Admits text value
  pub cnf_is : cnf ≡ cnf_of value

-- the status of a clause list that is written
abbrev pub cnf_status : ReducedValue → Status
cnf_status reduced = Yes

-- what the engine answers, by what the source hands out and the sink takes
abbrev pub IsRunOfCnf : SourceRun → SinkRun → Result Status Fault → Type 0
IsRunOfCnf trace out =
    IsRunOfEngine InPieces (of_one IsReducedFrom) (λ reduced. cnf_of reduced.whole ∷ []) cnf_status (trace ∷ []) (out ∷ [])

-- the source handed out the text of a trace, and the sink took that of a formula over its variables, which has a model if and only if
-- the whole trace has a legal schedule
pub record MeansSchedulable (trace : SourceRun) (out : SinkRun) : Type 0 where
  pub text : List ℕ
  pub handed : HandsOut trace text
  pub value : TraceValue
  pub is_trace : IsTrace value
  pub spelled : SpellsTrace text value
  pub formula : FormulaValue
  pub is_over : IsTrue (is_formula formula)
  pub whole : out.now ≡ out.before ++ cnf_text formula
  pub meaning : ((truth : ℕ → Bool) × IsModel truth formula.clauses) ↔ ((names : List OpName) × IsLegal value names)
