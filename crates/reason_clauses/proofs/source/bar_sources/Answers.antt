use Rattle.std.proofs.Common.{ℕ, List, inl, inr, sym, subst}
use Rattle.writer_table.specs.declared.runs.Run.{Run}
use Rattle.reason_clauses.specs.Barred.{AreRunsBarred}
use Rattle.reason_clauses.specs.PossibleSources.{AreWholeRuns, IsOwnExact}
use Rattle.reason_clauses.specs.SourceRefused.{IsInitialOrder, IsReaderOrder, IsReaderRefused, IsStretchOrder}
use Rattle.reason_clauses.proofs.AddedLemmas.{adds_both}
use Rattle.reason_clauses.proofs.RefusedLemmas.{refusal_on}
use Rattle.reason_clauses.proofs.RunLemmas.{whole_runs}
use Rattle.reason_clauses.proofs.SourceLemmas.{sources_by}
use Rattle.reason_clauses.proofs.source.bar_sources.Goals as goal

pub returns-clause-bars : goal.returns-clause-bars
returns-clause-bars c =
    sources_by c.args.trace.now c.recall_invariant.ensures c.args.writers.now.by_value c.requires.by_value c.bar_runs.new.orders.items c.bar_start.new.orders.items c.args.reader.now.operation c.args.reader.now.read.origin.now c.own_source-own.result c.args.reader.now.pieces.now c.args.reader.now.read.location.now c.args.reader.now.read.value
    c.own_source-own.ensures.source (subst (λ l. AreRunsBarred c.args.trace.now c.bar_runs.new.orders.items c.args.reader.now.operation c.args.reader.now.read.origin.now c.own_source-own.result c.args.reader.now.pieces.now l) c.runs-runs.ensures c.in_ok-bar_runs.ensures.bars) c.in_ok-bar_start.ensures.grows c.in_ok-bar_start.ensures.bars

pub returns-clause-only : goal.returns-clause-only
returns-clause-only c =
    let t = c.args.trace.now in
    let r = c.args.reader.now.operation in
    let pieces = c.args.reader.now.pieces.now in
    let origin = c.args.reader.now.read.origin.now in
    let location = c.args.reader.now.read.location.now in
    let d = c.args.reader.now.read.value in
    let whole : AreWholeRuns t location d c.runs-runs.result.now =
    subst (λ (l : List Run). AreWholeRuns t location d l) (sym c.runs-runs.ensures) (whole_runs t c.recall_invariant.ensures c.args.writers.now.by_value c.requires.by_value c.requires.value_kind location d) in
    adds_both c.args.orders.now.items c.bar_runs.new.orders.items c.bar_start.new.orders.items (IsStretchOrder t r pieces origin location d) (IsInitialOrder t r pieces origin location d) (IsReaderOrder t r pieces origin location d) (λ o h. inl h) (λ o h. inr h)
    (c.in_ok-bar_runs.ensures.only location d whole c.own_source-own.ensures.exact) c.in_ok-bar_start.ensures.only

pub returns-in_err-bar_runs-clause-refused : goal.returns-in_err-bar_runs-clause-refused
returns-in_err-bar_runs-clause-refused c =
    let t = c.args.trace.now in
    let r = c.args.reader.now.operation in
    let pieces = c.args.reader.now.pieces.now in
    let origin = c.args.reader.now.read.origin.now in
    let location = c.args.reader.now.read.location.now in
    let d = c.args.reader.now.read.value in
    let own = c.own_source-own.result in
    let whole : AreWholeRuns t location d c.runs-runs.result.now =
    subst (λ (l : List Run). AreWholeRuns t location d l) (sym c.runs-runs.ensures) (whole_runs t c.recall_invariant.ensures c.args.writers.now.by_value c.requires.by_value c.requires.value_kind location d) in
    refusal_on (λ cause. (location : List ℕ) (d : ℕ) → AreWholeRuns t location d c.runs-runs.result.now → IsOwnExact t r origin location d own → IsReaderRefused t r pieces origin location d cause) (IsReaderRefused t r pieces origin location d)
    c.from_residual.result c.in_err-bar_runs.field-0.0 c.from_residual.ensures.1 (λ cause h. h location d whole c.own_source-own.ensures.exact) c.in_err-bar_runs.ensures.refused
