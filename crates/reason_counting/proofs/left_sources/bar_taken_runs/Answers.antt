use Rattle.std.proofs.Common.{ℕ, List, sym, subst, take_all, inl}
use Rattle.trace_semantics.proofs.ElementLemmas.{none_in}
use Rattle.writer_table.specs.declared.runs.Run.{Run}
use Rattle.reason_clauses.proofs.NumberedLemmas.{grows_same, grows_over}
use Rattle.reason_clauses.specs.PossibleSources.{AreWholeRuns, IsOwnExact, IsWholeRun}
use Rattle.reason_clauses.specs.SourceRefused.{IsPartlyRefused}
use Rattle.reason_clauses.proofs.RefusedLemmas.{refusal_on}
use Rattle.reason_counting.specs.Left.{AreRunsLeft}
use Rattle.reason_counting.proofs.LeftLemmas.{left_runs_more}
use Rattle.reason_counting.proofs.OtherLemmas.{takes_over}
use Rattle.reason_counting.proofs.left_sources.bar_taken_runs.Goals as goal

pub loop-run-init : goal.loop-run-init
loop-run-init c = (grows_same c.args.orders.now.items, λ run listed. absurd (none_in run listed), λ location exact whole. (λ o d. inl d, λ x d. inl d))

pub loop-run-preserved : goal.loop-run-preserved
loop-run-preserved c = (
  grows_over c.args.orders.now.items c.loop-run.orders.items c.bar_taken_run.new.orders.items c.loop-run.invariant.0 c.in_ok-bar_taken_run.ensures.grows,
  left_runs_more c.args.trace.now c.loop-run.orders.items c.bar_taken_run.new.orders.items c.loop-run.left.items c.bar_taken_run.new.left.items c.args.reader.now.read.value c.args.reader.now.operation c.args.reader.now.read.origin.now c.args.own c.args.reader.now.pieces.now c.args.runs.now c.loop-run.run-index c.run-item.result c.loop-run-test.true (sym c.run-item.is)
      c.in_ok-bar_taken_run.ensures.grows c.in_ok-bar_taken_run.ensures.more c.loop-run.invariant.1 c.in_ok-bar_taken_run.ensures.bars,
  λ location exact whole. takes_over c.args.trace.now c.args.reader.now.operation c.args.reader.now.pieces.now c.args.reader.now.read.origin.now location c.args.reader.now.read.value c.args.orders.now.items c.loop-run.orders.items c.bar_taken_run.new.orders.items c.args.left.now.items c.loop-run.left.items c.bar_taken_run.new.left.items
      (c.loop-run.invariant.2 location exact whole) (c.in_ok-bar_taken_run.ensures.only location exact (whole c.run-item.result (c.loop-run.run-index, c.loop-run-test.true, sym c.run-item.is))),
)

pub returns-clause-grows : goal.returns-clause-grows
returns-clause-grows c = c.loop-run.invariant.0

pub returns-clause-bars : goal.returns-clause-bars
returns-clause-bars c =
    subst (λ (l : List Run). AreRunsLeft c.args.trace.now c.loop-run.orders.items c.loop-run.left.items c.args.reader.now.read.value c.args.reader.now.operation c.args.reader.now.read.origin.now c.args.own c.args.reader.now.pieces.now l) (take_all c.loop-run.run-index c.args.runs.now c.loop-run-test.false) c.loop-run.invariant.1

pub returns-clause-only : goal.returns-clause-only
returns-clause-only c = c.loop-run.invariant.2

pub returns-in_err-bar_taken_run-clause-refused : goal.returns-in_err-bar_taken_run-clause-refused
returns-in_err-bar_taken_run-clause-refused c =
    let t = c.args.trace.now in
    let r = c.args.reader.now.operation in
    let d = c.args.reader.now.read.value in
    let pieces = c.args.reader.now.pieces.now in
    let origin = c.args.reader.now.read.origin.now in
    let run = c.run-item.result in
    refusal_on (λ cause. (location : List ℕ) → IsOwnExact t r origin location d c.args.own → IsWholeRun t location d run → IsPartlyRefused t r pieces origin location d cause)
    (λ cause. (location : List ℕ) → IsOwnExact t r origin location d c.args.own → AreWholeRuns t location d c.args.runs.now → IsPartlyRefused t r pieces origin location d cause) c.from_residual.result c.in_err-bar_taken_run.field-0.0 c.from_residual.ensures.1
    (λ cause h location exact whole. h location exact (whole run (c.loop-run.run-index, c.loop-run-test.true, sym c.run-item.is))) c.in_err-bar_taken_run.ensures.refused
