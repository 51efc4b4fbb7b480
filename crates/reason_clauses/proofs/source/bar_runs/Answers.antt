use Rattle.std.proofs.Common.{ℕ, List, inl, sym, subst, take_all}
use Rattle.trace_semantics.proofs.ElementLemmas.{none_in}
use Rattle.writer_table.specs.declared.runs.Run.{Run}
use Rattle.reason_clauses.specs.Barred.{AreRunsBarred}
use Rattle.reason_clauses.specs.PossibleSources.{AreWholeRuns, IsOwnExact, IsWholeRun}
use Rattle.reason_clauses.specs.SourceRefused.{IsReaderRefused, IsStretchOrder}
use Rattle.reason_clauses.proofs.AddedLemmas.{adds_over}
use Rattle.reason_clauses.proofs.RefusedLemmas.{refusal_on}
use Rattle.reason_clauses.proofs.NumberedLemmas.{grows_same, grows_over}
use Rattle.reason_clauses.proofs.SourceLemmas.{runs_more}
use Rattle.reason_clauses.proofs.source.bar_runs.Goals as goal

pub loop-run-init : goal.loop-run-init
loop-run-init c = (grows_same c.args.orders.now.items, λ run listed. absurd (none_in run listed), λ location d whole exact o there. inl there)

pub loop-run-preserved : goal.loop-run-preserved
loop-run-preserved c = (
  grows_over c.args.orders.now.items c.loop-run.orders.items c.bar_run.new.orders.items c.loop-run.invariant.0 c.in_ok-bar_run.ensures.grows,
  runs_more c.args.trace.now c.loop-run.orders.items c.bar_run.new.orders.items c.args.reader.now.operation c.args.reader.now.read.origin.now c.args.own c.args.reader.now.pieces.now c.args.runs.now c.loop-run.run-index c.run-item.result c.loop-run-test.true (sym c.run-item.is)
      c.in_ok-bar_run.ensures.grows c.loop-run.invariant.1 c.in_ok-bar_run.ensures.bars,
  λ location d whole exact.
      adds_over c.args.orders.now.items c.loop-run.orders.items c.bar_run.new.orders.items (IsStretchOrder c.args.trace.now c.args.reader.now.operation c.args.reader.now.pieces.now c.args.reader.now.read.origin.now location d) (IsStretchOrder c.args.trace.now c.args.reader.now.operation c.args.reader.now.pieces.now c.args.reader.now.read.origin.now location d) (λ o h. h)
      (c.loop-run.invariant.2 location d whole exact) (c.in_ok-bar_run.ensures.only location d (whole c.run-item.result (c.loop-run.run-index, c.loop-run-test.true, sym c.run-item.is)) exact),
)

pub returns-clause-grows : goal.returns-clause-grows
returns-clause-grows c = c.loop-run.invariant.0

pub returns-clause-bars : goal.returns-clause-bars
returns-clause-bars c =
    subst (λ (l : List Run). AreRunsBarred c.args.trace.now c.loop-run.orders.items c.args.reader.now.operation c.args.reader.now.read.origin.now c.args.own c.args.reader.now.pieces.now l) (take_all c.loop-run.run-index c.args.runs.now c.loop-run-test.false) c.loop-run.invariant.1

pub returns-clause-only : goal.returns-clause-only
returns-clause-only c = c.loop-run.invariant.2

pub returns-in_err-bar_run-clause-refused : goal.returns-in_err-bar_run-clause-refused
returns-in_err-bar_run-clause-refused c =
    let t = c.args.trace.now in
    let r = c.args.reader.now.operation in
    let pieces = c.args.reader.now.pieces.now in
    refusal_on (λ cause. (location : List ℕ) (d : ℕ) → IsWholeRun t location d c.run-item.result → IsOwnExact t r c.args.reader.now.read.origin.now location d c.args.own → IsReaderRefused t r pieces c.args.reader.now.read.origin.now location d cause)
    (λ cause. (location : List ℕ) (d : ℕ) → AreWholeRuns t location d c.args.runs.now → IsOwnExact t r c.args.reader.now.read.origin.now location d c.args.own → IsReaderRefused t r pieces c.args.reader.now.read.origin.now location d cause)
    c.from_residual.result c.in_err-bar_run.field-0.0 c.from_residual.ensures.1
    (λ cause h location d whole exact. h location d (whole c.run-item.result (c.loop-run.run-index, c.loop-run-test.true, sym c.run-item.is)) exact) c.in_err-bar_run.ensures.refused
