-- What a model of the clauses of a kept trace says of the whole trace.
use Rattle.std.proofs.Common.{ℕ, Bool, List, subst, sym}
use Rattle.std.specs.Prelude.{◌↔◌}
use Rattle.dimacs.specs.Models.{IsModel}
use Rattle.trace_semantics.specs.declared.operation.OpName.{OpName}
use Rattle.trace_semantics.specs.Legal.{IsLegal}
use Rattle.trace_semantics.specs.Trace.{TraceValue, IsTrace}
use Rattle.reducer.specs.Expansion.{expansion}
use Rattle.reducer.specs.Reduced.{ReducedValue, IsReduced}
use Rattle.reducer.specs.Reduction.{kept_trace}
use Rattle.reducer.proofs.DroppedReads.InterleavingLemmas.{reduced}
use Rattle.reducer.proofs.DroppedReads.ScheduleLemmas.{expansion_legal, reduction_legal}
use Rattle.reducer.proofs.KeptTrace.TraceLemmas.{kept_is_trace}
use Rattle.clause_blocks.specs.Clauses.{clauses_of}
use Rattle.clause_blocks.proofs.ModelToSchedule.ModelOrderLemmas.{model_order}
use Rattle.clause_blocks.proofs.ModelToSchedule.ModelReadLemmas.{model_legal}
use Rattle.clause_blocks.proofs.ScheduleToModel.ScheduleLawLemmas.{schedule_values}

-- a model gives a schedule of the whole trace
pub schedule_of_model : (t : TraceValue) → IsTrace t → (truth : ℕ → Bool) → IsModel truth (clauses_of (kept_trace t)) → (names : List OpName) × IsLegal t names
schedule_of_model t ok truth model =
    let kept = kept_is_trace t ok in
    let order = model_order truth (kept_trace t) kept model in
    (expansion t order.0, expansion_legal t order.0 ok (model_legal truth (kept_trace t) order.0 kept model order.1))

-- a schedule of the whole trace gives a model
pub model_of_schedule : (t : TraceValue) → IsTrace t → (names : List OpName) → IsLegal t names → (truth : ℕ → Bool) × IsModel truth (clauses_of (kept_trace t))
model_of_schedule t ok names legal =
    let made = schedule_values (kept_trace t) (reduced t names) (kept_is_trace t ok) (reduction_legal t names ok legal) in
    (made.0, made.1)

-- what the clauses of the kept trace mean is what those of a reduced trace mean
pub of_reduced : (r : ReducedValue) → IsReduced r →
    ((truth : ℕ → Bool) × IsModel truth (clauses_of (kept_trace r.whole))) ↔ ((names : List OpName) × IsLegal r.whole names) →
    ((truth : ℕ → Bool) × IsModel truth (clauses_of r.kept)) ↔ ((names : List OpName) × IsLegal r.whole names)
of_reduced r ok meaning = subst (λ (t : TraceValue). ((truth : ℕ → Bool) × IsModel truth (clauses_of t)) ↔ ((names : List OpName) × IsLegal r.whole names)) (sym ok.reduction) meaning

-- what is kept of a reduced trace is a trace
pub kept_of_reduced : (r : ReducedValue) → IsReduced r → IsTrace r.whole → IsTrace r.kept
kept_of_reduced r ok whole = subst IsTrace (sym ok.reduction) (kept_is_trace r.whole whole)
