use Rattle.std.proofs.Common.{List, sym, subst, take_all, inl}
use Rattle.trace_semantics.proofs.ElementLemmas.{none_in}
use Rattle.writer_table.specs.declared.operation_place.OperationPlace.{OperationPlace}
use Rattle.writer_table.specs.declared.runs.Run.{Run}
use Rattle.reason_clauses.specs.declared.cause.ReasonCause.{ReasonCause}
use Rattle.reason_clauses.specs.LastBarred.{AreLastsBarred}
use Rattle.reason_clauses.specs.LastRefused.{IsLastOrder, IsPossibleLast, IsLastWriterRefused}
use Rattle.reason_clauses.proofs.AddedLemmas.{adds_over}
use Rattle.reason_clauses.proofs.LastLemmas.{lasts_more, written_more, written_all, IsWrittenOr}
use Rattle.reason_clauses.proofs.RefusedLemmas.{refusal_on}
use Rattle.reason_clauses.proofs.last.bar_lasts.Goals as goal

pub bar_last-requires-clause-run : goal.bar_last-requires-clause-run
bar_last-requires-clause-run c = c.requires.runs.each c.run-item.result (c.loop-run.run-index, c.loop-run-test.true, sym c.run-item.is)

pub loop-run-init : goal.loop-run-init
loop-run-init c = (λ run listed. absurd (none_in run listed), λ run listed. absurd (none_in run listed), λ o d. inl d)

pub loop-run-preserved : goal.loop-run-preserved
loop-run-preserved c =
    let t = c.args.trace.now in
    let location = c.args.end.now.location.now in
    let pieces = c.args.end.now.pieces.now in (
      lasts_more t c.loop-run.orders.items c.bar_last.new.orders.items location pieces c.args.runs.now c.loop-run.run-index c.run-item.result c.loop-run-test.true (sym c.run-item.is) c.in_ok-writes.ensures.grows c.loop-run.invariant.0 c.in_ok-writes.ensures.bars,
      written_more t location c.args.runs.now c.loop-run.run-index c.run-item.result c.loop-run.is_written c.in_ok-writes.writes c.loop-run-test.true (sym c.run-item.is) c.loop-run.invariant.1 c.in_ok-writes.ensures.writes,
      adds_over c.args.orders.now.items c.loop-run.orders.items c.bar_last.new.orders.items (IsLastOrder t location pieces) (IsLastOrder t location pieces) (λ o h. h) c.loop-run.invariant.2 c.in_ok-writes.ensures.only,
    )

pub returns-clause-bars : goal.returns-clause-bars
returns-clause-bars c =
    subst (λ (l : List Run). AreLastsBarred c.args.trace.now c.loop-run.orders.items c.args.end.now.location.now c.args.end.now.pieces.now l) (take_all c.loop-run.run-index c.args.runs.now c.loop-run-test.false) c.loop-run.invariant.0

pub returns-clause-writes : goal.returns-clause-writes
returns-clause-writes c =
    let t = c.args.trace.now in
    let location = c.args.end.now.location.now in
    written_all t location c.args.runs.now c.loop-run.is_written c.requires.runs.all (subst (λ (l : List Run). IsWrittenOr c.loop-run.is_written t location l) (take_all c.loop-run.run-index c.args.runs.now c.loop-run-test.false) c.loop-run.invariant.1)

pub returns-clause-only : goal.returns-clause-only
returns-clause-only c = c.loop-run.invariant.2

pub returns-in_err-writes-clause-refused : goal.returns-in_err-writes-clause-refused
returns-in_err-writes-clause-refused c =
    let is = λ (cause : ReasonCause). (w : OperationPlace) × IsPossibleLast c.args.trace.now c.args.end.now.location.now w × IsLastWriterRefused c.args.end.now.pieces.now w cause in
    refusal_on is is c.from_residual.result c.in_err-writes.field-0.0 c.from_residual.ensures.1 (λ cause h. h) c.in_err-writes.ensures.refused
