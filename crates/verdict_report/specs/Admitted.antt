-- The traces that are translated.
use Rattle.std.specs.Prelude.{◌≡◌, ◌<◌, ◌≤◌, ⊤, ℕ, List, Result, Ok, Err}
use Rattle.dimacs.specs.CnfText.{cnf_text}
use Rattle.trace_semantics.specs.Trace.{TraceValue, IsTrace, operation_count}
use Rattle.trace_text.specs.TraceFault.{HasTraceFault}
use Rattle.trace_text.specs.TraceText.{SpellsTrace}
use Rattle.reducer.specs.Reduced.{ReducedValue, IsReduced}
use Rattle.reducer.specs.Reduction.{kept_trace}
use Rattle.clause_blocks.specs.Clauses.{formula_of}
use Rattle.reducer.specs.declared.reduce_fault.ReduceCause.TheVariants.{StillTooLarge}
use Rattle.verdict_report.specs.declared.fault.Fault.{Fault}
use Rattle.verdict_report.specs.declared.fault.Fault.TheVariants.{OutOfMemory, Trace, Reduce}

-- the text is admitted: it spells this trace, of which 160 operations at most are kept
pub record Admits (text : List ℕ) (value : TraceValue) : Type 0 where
  pub is_trace : IsTrace value
  pub spelled : SpellsTrace text value
  pub few : operation_count (kept_trace value) ≤ 160

-- the text spells a trace, of which this number of operations is kept, which is too many
pub record IsTooLarge (text : List ℕ) (left : ℕ) : Type 0 where
  pub value : TraceValue
  pub is_trace : IsTrace value
  pub spelled : SpellsTrace text value
  pub left_is : left ≡ operation_count (kept_trace value)
  pub many : 160 < left

-- the reduction of the trace that the text spells, or why there is none
abbrev pub IsReducedFrom : List ℕ → Result ReducedValue Fault → Type 0
IsReducedFrom text (Ok reduced) = IsReduced reduced × Admits text reduced.whole
IsReducedFrom text (Err OutOfMemory) = ⊤
IsReducedFrom text (Err (Trace cause line)) = HasTraceFault text cause line
IsReducedFrom text (Err (Reduce StillTooLarge left)) = IsTooLarge text left
IsReducedFrom text (Err fault) = ⊥

-- the text of the clause list of what is kept of a trace
abbrev pub cnf_of : TraceValue → List ℕ
cnf_of value = cnf_text (formula_of (kept_trace value))
