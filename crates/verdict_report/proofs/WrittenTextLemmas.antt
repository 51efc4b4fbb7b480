-- The text that is written of an admitted trace, as readers of formulas and of proofs take it.
use Rattle.std.proofs.Common.{◌≡◌, ◌≤◌, ℕ, ℤ, List, ap, sym, subst, arith}
use Rattle.cnf_text.specs.CnfReading.{SpellsCnf}
use Rattle.cnf_text.proofs.CnfLawLemmas.{one_spelled}
use Rattle.cnf_text.proofs.CnfWrittenLemmas.{written_spells}
use Rattle.dimacs.specs.Formula.{FormulaValue}
use Rattle.dimacs.specs.Literal.{most_variable}
use Rattle.dimacs.specs.Models.{IsModel}
use Rattle.trace_semantics.specs.declared.operation.OpName.{OpName}
use Rattle.trace_semantics.specs.Legal.{IsLegal}
use Rattle.trace_semantics.specs.Trace.{TraceValue, IsTrace}
use Rattle.reducer.specs.Reduction.{kept_trace}
use Rattle.reducer.proofs.KeptTrace.TraceLemmas.{kept_is_trace}
use Rattle.var_layout.specs.FinalVariables.{variable_count}
use Rattle.var_layout.proofs.BoundLemmas.{few_variables}
use Rattle.clause_blocks.specs.Clauses.{formula_of}
use Rattle.clause_blocks.proofs.ClauseList.FewLemmas.{few_in_list}
use Rattle.clause_blocks.proofs.ClauseList.FormulaLemmas.{clauses_over}
use Rattle.verdict_report.specs.Admitted.{Admits, cnf_of}
use Rattle.verdict_report.specs.LratEngine.{AreAccepted}
use Rattle.verdict_report.proofs.MeaningLemmas.{model_of_schedule}

pub written_text_spells : (text : List ℕ) (value : TraceValue) → Admits text value → SpellsCnf (cnf_of value) (formula_of (kept_trace value))
written_text_spells text value admitted =
    let t = kept_trace value in
    let kept : IsTrace t = kept_is_trace value admitted.is_trace in
    let variables : variable_count t ≤ most_variable = omega (arith, few_variables t kept admitted.few) in
    written_spells (formula_of t) (clauses_over t kept) variables (few_in_list t kept admitted.few)

pub no_schedule : (text proof : List ℕ) (value : TraceValue) (names : List OpName) → Admits text value → AreAccepted (cnf_of value) proof → IsLegal value names → ⊥
no_schedule text proof value names admitted accepted legal =
    let model = model_of_schedule value admitted.is_trace names legal in
    let same : accepted.formula ≡ formula_of (kept_trace value) = one_spelled (cnf_of value) accepted.formula (formula_of (kept_trace value)) accepted.spelled (written_text_spells text value admitted) in
    accepted.no_model model.0 (subst (λ (clauses : List (List ℤ)). IsModel model.0 clauses) (ap (λ (f : FormulaValue). f.clauses) (sym same)) model.1)
