use Rattle.std.proofs.Common.{subst, sym, ◌≡◌, ℕ, List, Bool, ap, ◌∙◌}
use Rattle.std.specs.List.{filter_map, slice_get}
use Rattle.dimacs.specs.Assignment.{value_of}
use Rattle.dimacs.specs.Models.{IsModel}
use Rattle.trace_semantics.specs.Trace.{TraceValue, IsTrace, operation_names}
use Rattle.trace_semantics.specs.declared.operation.OpName.{OpName}
use Rattle.var_layout.specs.Numbers.{name_at}
use Rattle.clause_blocks.specs.Clauses.{clauses_of}
use Rattle.clause_blocks.specs.ModelOrder.{IsInOrderOf}
use Rattle.clause_blocks.proofs.ModelToSchedule.ModelReadLemmas.{model_legal}
use Rattle.schedule_decode.proofs.decode.schedule_of.Goals as goal

-- The order of a model as a schedule.

-- the names of these numbers, of the trace of the layout, are the schedule
in_schedule : (value : ℕ → Bool) (layout trace kept : TraceValue) (order lent_order : List ℕ) (names lent_names found schedule : List OpName) →
    layout ≡ kept → trace ≡ kept → names ≡ operation_names trace → lent_names ≡ names → lent_order ≡ order → found ≡ filter_map (slice_get lent_names) lent_order → schedule ≡ found →
    IsInOrderOf value layout (filter_map (name_at layout) order) → IsInOrderOf value kept schedule
in_schedule value layout trace kept order lent_order names lent_names found schedule of_layout of_trace named lent_named lent_ordered is_found is ordered =
    let of_kept : IsInOrderOf value kept (filter_map (name_at kept) order) = subst (λ t. IsInOrderOf value t (filter_map (name_at t) order)) of_layout ordered in
    let all : lent_names ≡ operation_names kept = lent_named ∙ named ∙ ap operation_names of_trace in
    let same : schedule ≡ filter_map (name_at kept) order = is ∙ is_found ∙ (λ i. filter_map (slice_get (all i)) (lent_ordered i)) in
    subst (IsInOrderOf value kept) (sym same) of_kept

pub returns-clause-ordered : goal.returns-clause-ordered
returns-clause-ordered c = λ given.
    let model = subst (λ (t : TraceValue). IsModel (value_of c.args.assignment.now) (clauses_of t)) (sym given.same) given.model in
    in_schedule (value_of c.args.assignment.now) c.args.layout.now c.kept-trace.result.now c.args.reduced.now.kept c.in_ok-order.order.items c.as_slice-2.result.now c.in_ok-names.names.items c.as_slice.result.now c.in_ok-names_in_order.field-0.items c.new.result
    given.same c.kept-trace.ensures.trace c.in_ok-names.ensures c.as_slice.ensures.value c.as_slice-2.ensures.value c.in_ok-names_in_order.ensures c.new.ensures (c.in_ok-order.ensures model)

pub returns-clause-legal : goal.returns-clause-legal
returns-clause-legal c = λ given.
    model_legal (value_of c.args.assignment.now) c.args.reduced.now.kept c.new.result (subst IsTrace c.kept-trace.ensures.trace c.recall_invariant.ensures) given.model (returns-clause-ordered c given)
