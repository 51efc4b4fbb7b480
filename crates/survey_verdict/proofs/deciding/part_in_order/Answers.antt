use Rattle.std.proofs.Common.{◌≡◌, ℕ, Bool, true, false, List, refl, subst, sym}
use Rattle.std.specs.Prelude.{Option, Some, None, is_some, not, if◌then◌else◌}
use Rattle.std.specs.List.{Contains}
use Rattle.text_lines.specs.FirstFault.{IsFirstFault}
use Rattle.trace_semantics.specs.declared.operation.OpName.{OpName}
use Rattle.trace_semantics.specs.Interleaving.{StandsBefore}
use Rattle.trace_semantics.specs.Judgement.{has_come}
use Rattle.trace_semantics.specs.Trace.{TraceValue, IsTrace, operation_at, operation_names}
use Rattle.trace_semantics.proofs.ElementLemmas.{from_filter, in_middle}
use Rattle.trace_semantics.proofs.NameLemmas.{come_in, listed_known}
use Rattle.trace_semantics.proofs.OrderLemmas.{stands_behind}
use Rattle.restriction.proofs.StandLemmas.{out_of_filter}
use Rattle.trace_part.specs.Choice.{fault_of_choice}
use Rattle.trace_part.specs.declared.part_fault.PartCause.{PartCause}
use Rattle.trace_part.specs.declared.part_fault.PartCause.TheVariants.{UnknownOp, RepeatedOp}
use Rattle.clause_blocks.proofs.NumbersOfNames.OperationNumberLemmas.{names_once}
use Rattle.survey_verdict.specs.Surveyed.{core_of}
use Rattle.survey_verdict.proofs.deciding.part_in_order.Goals as goal

-- The operations of a core are a choice, and their names can be written.

-- a known name that has not come is no fault
choice_fault : Bool → Bool → Option PartCause
choice_fault known come = if not known then Some UnknownOp else if come then Some RepeatedOp else None

no_fault : (known come : Bool) → known ≡ true → (come ≡ true → ⊥) → (cause : PartCause) → choice_fault known come ≡ Some cause → ⊥
unfolding choice_fault
no_fault true true k c cause e = c refl
no_fault true false k c cause e = let wrong : None ≡ Some cause = e in cc
no_fault false come k c cause e = let wrong : false ≡ true = k in cc

-- operations of a trace, in its order, are a choice
is_choice : (t : TraceValue) → IsTrace t → (names found : List OpName) → names ≡ core_of t found → (cause : PartCause) (place : ℕ) → IsFirstFault (fault_of_choice t) names place cause → ⊥
unfolding choice_fault
is_choice t ok names found is cause place f =
    let listed : (n : OpName) → Contains names n → Contains (operation_names t) n = λ n c. (from_filter (has_come found) (operation_names t) n (subst (λ (l : List OpName). Contains l n) is c)).0 in
    let here : Contains names f.item = subst (λ (l : List OpName). Contains l f.item) (sym f.parts) (in_middle f.before f.item f.after) in
    let once : StandsBefore names f.item f.item → ⊥ = λ s. names_once t ok f.item (out_of_filter (has_come found) (operation_names t) f.item f.item (subst (λ (l : List OpName). StandsBefore l f.item f.item) is s)) in
    no_fault (is_some (operation_at t f.item)) (has_come f.before f.item) (listed_known t ok f.item (listed f.item here))
    (λ e. once (stands_behind names f.before f.item f.after f.item f.parts (come_in f.before f.item e))) cause f.faulty

pub unreachable-requires : goal.unreachable-requires
unreachable-requires c =
    let first : IsFirstFault (fault_of_choice c.args.trace.now) c.args.names.now c.in-Err-At._place c.in-Err-At._cause = rw c.in-Err-At.field-0-is at c.in-Err-At.ensures.refused in
    absurd (is_choice c.args.trace.now c.recall_invariant.ensures c.args.names.now c.args.names.now c.requires c.in-Err-At._cause c.in-Err-At._place first)
