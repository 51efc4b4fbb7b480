use Rattle.std.proofs.Common.{arith, refl, inl, inr}
use Rattle.std.specs.Prelude.{List}
use Rattle.writer_table.specs.declared.operation_place.OperationPlace.{OperationPlace}
use Rattle.reason_clauses.specs.RefusedBy.{IsMissingNumber}
use Rattle.reason_clauses.proofs.MakerLemmas.{number_known}
use Rattle.reason_clauses.proofs.RefusedLemmas.{refusal_on}
use Rattle.reason_counting.specs.WaitingRefused.{IsBehindRefused}
use Rattle.reason_counting.specs.WaitingSet.{AreFirstKnown}
use Rattle.reason_counting.proofs.WaitLemmas.{behind_member, may_come_first}
use Rattle.reason_counting.proofs.waiting.want_behind.Goals as goal

pub returns-clause-known : goal.returns-clause-known
returns-clause-known c = number_known c.args.waiting.now.trace.now c.args.n c.in_ok-_op._op.now c.in_ok-_op.ensures.there

pub returns-clause-behind : goal.returns-clause-behind
returns-clause-behind c members h =
    behind_member c.args.waiting.now.trace.now c.recall_invariant.ensures members c.args.waiting.now.first.now c.args.n c.first_in-place.result h c.first_in-place.ensures (let none = c.if-place-eq0.false in omega (arith, none)) (let low = c.if-n-place.false in omega (arith, low))
    (number_known c.args.waiting.now.trace.now c.args.n c.in_ok-_op._op.now c.in_ok-_op.ensures.there)

pub returns-in_err-_op-clause-refused : goal.returns-in_err-_op-clause-refused
returns-in_err-_op-clause-refused c =
    let t = c.args.waiting.now.trace.now in
    refusal_on (IsMissingNumber t c.args.n) (λ cause. (members : List OperationPlace) → AreFirstKnown t members c.args.waiting.now.first.now → IsBehindRefused t members c.args.n cause) c.from_residual.result c.in_err-_op.field-0.0 c.from_residual.ensures.1
    (λ cause h members all. inl h) c.in_err-_op.ensures.refused
