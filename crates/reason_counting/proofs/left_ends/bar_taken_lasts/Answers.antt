use Rattle.std.proofs.Common.{List, sym, subst, take_all, inl}
use Rattle.trace_semantics.proofs.ElementLemmas.{none_in}
use Rattle.writer_table.specs.declared.runs.Run.{Run}
use Rattle.reason_clauses.specs.LastRefused.{IsLastOrder}
use Rattle.reason_clauses.proofs.AddedLemmas.{adds_over}
use Rattle.reason_clauses.proofs.LastLemmas.{IsWrittenOr, written_all, written_more}
use Rattle.reason_clauses.proofs.NumberedLemmas.{grows_same, grows_over}
use Rattle.reason_clauses.proofs.RefusedLemmas.{refusal_on}
use Rattle.reason_counting.specs.LeftEnds.{AreLastRunsLeft, IsEndTakenRefused, IsOtherEnd}
use Rattle.reason_counting.proofs.EndLemmas.{lasts_left_more}
use Rattle.reason_counting.proofs.LeftLemmas.{keeps_over}
use Rattle.reason_counting.proofs.left_ends.bar_taken_lasts.Goals as goal

pub loop-run-init : goal.loop-run-init
loop-run-init c = (grows_same c.args.orders.now.items, λ run listed. absurd (none_in run listed), λ run listed. absurd (none_in run listed), λ o d. inl d, λ x d. inl d)

pub loop-run-preserved : goal.loop-run-preserved
loop-run-preserved c =
    let t = c.args.trace.now in
    let location = c.args.end.now.location.now in
    let pieces = c.args.end.now.pieces.now in
    let run = c.run-item.result in (
      grows_over c.args.orders.now.items c.loop-run.orders.items c.bar_taken_last.new.orders.items c.loop-run.invariant.0 c.in_ok-writes.ensures.grows,
      lasts_left_more t c.loop-run.orders.items c.bar_taken_last.new.orders.items c.loop-run.left.items c.bar_taken_last.new.left.items location pieces c.args.runs.now c.loop-run.run-index run c.loop-run-test.true (sym c.run-item.is) c.in_ok-writes.ensures.grows c.in_ok-writes.ensures.more c.loop-run.invariant.1 c.in_ok-writes.ensures.bars,
      written_more t location c.args.runs.now c.loop-run.run-index run c.loop-run.is_written c.in_ok-writes.writes c.loop-run-test.true (sym c.run-item.is) c.loop-run.invariant.2 c.in_ok-writes.ensures.writes,
      adds_over c.args.orders.now.items c.loop-run.orders.items c.bar_taken_last.new.orders.items (IsLastOrder t location pieces) (IsLastOrder t location pieces) (λ o h. h) c.loop-run.invariant.3 c.in_ok-writes.ensures.only,
      keeps_over c.args.left.now.items c.loop-run.left.items c.bar_taken_last.new.left.items (IsOtherEnd t location pieces) (IsOtherEnd t location pieces) (λ x h. h) c.loop-run.invariant.4 c.in_ok-writes.ensures.left,
    )

pub returns-clause-grows : goal.returns-clause-grows
returns-clause-grows c = c.loop-run.invariant.0

pub returns-clause-bars : goal.returns-clause-bars
returns-clause-bars c =
    subst (λ (l : List Run). AreLastRunsLeft c.args.trace.now c.loop-run.orders.items c.loop-run.left.items c.args.end.now.location.now c.args.end.now.pieces.now l) (take_all c.loop-run.run-index c.args.runs.now c.loop-run-test.false) c.loop-run.invariant.1

pub returns-clause-writes : goal.returns-clause-writes
returns-clause-writes c =
    let t = c.args.trace.now in
    let location = c.args.end.now.location.now in
    written_all t location c.args.runs.now c.loop-run.is_written c.requires.runs.all (subst (λ (l : List Run). IsWrittenOr c.loop-run.is_written t location l) (take_all c.loop-run.run-index c.args.runs.now c.loop-run-test.false) c.loop-run.invariant.2)

pub returns-clause-only : goal.returns-clause-only
returns-clause-only c = c.loop-run.invariant.3

pub returns-clause-left : goal.returns-clause-left
returns-clause-left c = c.loop-run.invariant.4

pub returns-in_err-writes-clause-refused : goal.returns-in_err-writes-clause-refused
returns-in_err-writes-clause-refused c =
    let is = IsEndTakenRefused c.args.trace.now c.args.end.now.location.now c.args.end.now.pieces.now in
    refusal_on is is c.from_residual.result c.in_err-writes.field-0.0 c.from_residual.ensures.1 (λ cause h. h) c.in_err-writes.ensures.refused
