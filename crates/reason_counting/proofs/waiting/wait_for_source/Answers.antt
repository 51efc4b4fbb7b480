use Rattle.std.proofs.Common.{List, refl, subst}
use Rattle.writer_table.specs.declared.operation_place.OperationPlace.{OperationPlace}
use Rattle.reason_clauses.proofs.RefusedLemmas.{refusal_on}
use Rattle.reason_counting.specs.declared.left_sources.LeftStretch.{LeftStretch}
use Rattle.reason_counting.specs.OtherSources.{IsPartRefused}
use Rattle.reason_counting.specs.WaitingRefused.{ByInitial, ByPieces, IsSomeBehindRefused, IsSourceWaitRefused}
use Rattle.reason_counting.specs.WaitingSet.{AreBehind, AreFirstKnown}
use Rattle.reason_counting.proofs.WaitLemmas.{source_first, waits_for_source}
use Rattle.reason_counting.proofs.waiting.wait_for_source.Goals as goal

pub returns-clause-waits : goal.returns-clause-waits
returns-clause-waits c members h =
    waits_for_source c.args.waiting.now.trace.now c.args.writers.now.by_value members c.left_sources.new.orders.items c.args.reader c.in_ok-left.left c.if-left.false
    (subst (λ (l : List LeftStretch). AreBehind c.args.waiting.now.trace.now members l) c.as_slice.ensures.value (c.in_ok-want_all_behind.ensures.behind members h)) c.in_ok-left.ensures.bars

pub returns-then-left-clause-refused : goal.returns-then-left-clause-refused
returns-then-left-clause-refused c members all =
    let left = c.in_ok-left.ensures.left in
    ByInitial left.op left.value left.number left.reads (left.initial c.if-left.true) refl

pub returns-in_err-left-clause-refused : goal.returns-in_err-left-clause-refused
returns-in_err-left-clause-refused c =
    let t = c.args.waiting.now.trace.now in
    refusal_on (IsPartRefused t c.args.reader c.args.pieces.now) (λ cause. (members : List OperationPlace) → AreFirstKnown t members c.args.waiting.now.first.now → IsSourceWaitRefused t members c.args.reader c.args.pieces.now cause) c.from_residual.result c.in_err-left.field-0.0 c.from_residual.ensures.1
    (λ cause h members all. ByPieces h) c.in_err-left.ensures.refused

pub returns-in_err-want_all_behind-clause-refused : goal.returns-in_err-want_all_behind-clause-refused
returns-in_err-want_all_behind-clause-refused c =
    let t = c.args.waiting.now.trace.now in
    refusal_on (λ cause. (members : List OperationPlace) → AreFirstKnown t members c.args.waiting.now.first.now → IsSomeBehindRefused t members c.as_slice.result.now cause)
    (λ cause. (members : List OperationPlace) → AreFirstKnown t members c.args.waiting.now.first.now → IsSourceWaitRefused t members c.args.reader c.args.pieces.now cause) c.from_residual-in_err-want_all_behind.result c.in_err-want_all_behind.field-0.0 c.from_residual-in_err-want_all_behind.ensures.1
    (λ cause h members all.
    source_first t members c.args.reader c.args.pieces.now c.in_ok-left.left c.in_ok-left.ensures.left cause (subst (λ (l : List LeftStretch). IsSomeBehindRefused t members l cause) c.as_slice.ensures.value (h members all))) c.in_err-want_all_behind.ensures.refused
