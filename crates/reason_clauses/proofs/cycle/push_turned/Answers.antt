use Rattle.std.proofs.Common.{◌≡◌, true, false, refl, sym, ◌∙◌, inl, inr}
use Rattle.reason_clauses.specs.CycleRefused.{IsStepRefused}
use Rattle.reason_clauses.specs.RefusedBy.{IsMissingNumber}
use Rattle.reason_clauses.proofs.CycleLemmas.{is_turned}
use Rattle.reason_clauses.proofs.MakerLemmas.{number_known}
use Rattle.reason_clauses.proofs.RefusedLemmas.{refusal_on}
use Rattle.reason_clauses.proofs.cycle.push_turned.Goals as goal

pub returns-clause-turned : goal.returns-clause-turned
returns-clause-turned c =
    let other : c.args.from ≡ c.args.to → ⊥ = λ e. (let clash : true ≡ false = sym (c.are_same.ensures.found e) ∙ c.if-are_same.false in cc) in
    is_turned c.args.trace.now c.recall_invariant.ensures c.push_order.new.orders.items c.args.from c.args.to other (number_known c.args.trace.now c.args.from _ c.in_ok-_op.ensures.there) c.in_ok-push_order.ensures.says

pub returns-then-are_same-clause-refused : goal.returns-then-are_same-clause-refused
returns-then-are_same-clause-refused c = inl (c.are_same.ensures.only c.if-are_same.true, refl)

pub returns-in_err-_op-clause-refused : goal.returns-in_err-_op-clause-refused
returns-in_err-_op-clause-refused c =
    refusal_on (IsMissingNumber c.args.trace.now c.args.from) (IsStepRefused c.args.trace.now c.args.from c.args.to) c.from_residual.result c.in_err-_op.field-0.0 c.from_residual.ensures.1 (λ cause h. inr h) c.in_err-_op.ensures.refused
