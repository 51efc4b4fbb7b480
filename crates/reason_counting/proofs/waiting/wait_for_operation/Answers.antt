use Rattle.std.proofs.Common.{◌≡◌, true, false, sym, ◌∙◌, inl, inr}
use Rattle.std.specs.Prelude.{List}
use Rattle.writer_table.specs.declared.operation_place.OperationPlace.{OperationPlace}
use Rattle.reason_clauses.specs.RefusedBy.{IsMissingNumber}
use Rattle.reason_clauses.proofs.MakerLemmas.{number_known}
use Rattle.reason_clauses.proofs.RefusedLemmas.{refusal_on}
use Rattle.reason_counting.specs.WaitingRefused.{IsBehindRefused, IsWaitRefused}
use Rattle.reason_counting.specs.WaitingSet.{AreFirstKnown}
use Rattle.reason_counting.proofs.WaitLemmas.{waits_for}
use Rattle.reason_counting.proofs.waiting.wait_for_operation.Goals as goal

pub returns-clause-waits : goal.returns-clause-waits
returns-clause-waits c members h =
    let other : c.args.operation ≡ c.args.other → ⊥ = λ e. (let clash : true ≡ false = sym (c.are_same.ensures.found e) ∙ c.if-are_same.false in cc) in
    waits_for c.args.waiting.now.trace.now c.recall_invariant.ensures members c.push_order.new.orders.items c.args.operation c.args.other other
    (number_known c.args.waiting.now.trace.now c.args.operation c.in_ok-_op._op.now c.in_ok-_op.ensures.there) c.in_ok-want_behind.ensures.known (c.in_ok-want_behind.ensures.behind members h) c.in_ok-push_order.ensures.says

pub returns-in_err-want_behind-clause-refused : goal.returns-in_err-want_behind-clause-refused
returns-in_err-want_behind-clause-refused c =
    let t = c.args.waiting.now.trace.now in
    refusal_on (λ cause. (members : List OperationPlace) → AreFirstKnown t members c.args.waiting.now.first.now → IsBehindRefused t members c.args.other cause)
    (λ cause. (members : List OperationPlace) → AreFirstKnown t members c.args.waiting.now.first.now → IsWaitRefused t members c.args.operation c.args.other cause) c.from_residual-in_err-want_behind.result c.in_err-want_behind.field-0.0 c.from_residual-in_err-want_behind.ensures.1
    (λ cause h members all. inr (inr (h members all))) c.in_err-want_behind.ensures.refused
