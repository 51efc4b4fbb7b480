use Rattle.std.proofs.Common.{◌⊎◌, ℕ, List, sym, subst, inl, inr}
use Rattle.order_clauses.specs.declared.order_pair.OrderPair.{OrderPair}
use Rattle.writer_table.specs.Writers.{runs_at}
use Rattle.writer_table.specs.declared.runs.Run.{Run}
use Rattle.reason_clauses.specs.PossibleSources.{AreWholeRuns, IsOwnExact}
use Rattle.reason_clauses.specs.SourceRefused.{IsInitialOrder, IsPartlyRefused, IsPieceOrder}
use Rattle.reason_clauses.proofs.AddedLemmas.{adds_over}
use Rattle.reason_clauses.proofs.RefusedLemmas.{refusal_on}
use Rattle.reason_clauses.proofs.RunLemmas.{whole_runs}
use Rattle.reason_clauses.proofs.NumberedLemmas.{grows_over}
use Rattle.reason_counting.specs.Left.{AreRunsLeft}
use Rattle.reason_counting.proofs.LeftLemmas.{sources_left_by}
use Rattle.reason_counting.proofs.left_sources.bar_taken_sources.Goals as goal

pub returns-clause-grows : goal.returns-clause-grows
returns-clause-grows c = grows_over c.args.orders.now.items c.bar_taken_runs.new.orders.items c.bar_taken_start.new.orders.items c.in_ok-bar_taken_runs.ensures.grows c.in_ok-is_left.ensures.grows

pub returns-clause-bars : goal.returns-clause-bars
returns-clause-bars c =
    sources_left_by c.args.trace.now c.recall_invariant.ensures c.args.writers.now.by_value c.requires.by_value c.bar_taken_runs.new.orders.items c.bar_taken_start.new.orders.items c.bar_taken_runs.new.left.items c.args.reader.now.operation c.args.reader.now.read.origin.now c.own_source-own.result c.args.reader.now.pieces.now c.args.reader.now.read.location.now c.args.reader.now.read.value c.own_source-own.ensures.source
    (subst (λ l. AreRunsLeft c.args.trace.now c.bar_taken_runs.new.orders.items c.bar_taken_runs.new.left.items c.args.reader.now.read.value c.args.reader.now.operation c.args.reader.now.read.origin.now c.own_source-own.result c.args.reader.now.pieces.now l) c.runs-runs.ensures c.in_ok-bar_taken_runs.ensures.bars) c.in_ok-is_left.ensures.grows c.in_ok-is_left.is_left c.in_ok-is_left.ensures.bars

pub returns-clause-only : goal.returns-clause-only
returns-clause-only c =
    let t = c.args.trace.now in
    let r = c.args.reader.now.operation in
    let d = c.args.reader.now.read.value in
    let pieces = c.args.reader.now.pieces.now in
    let origin = c.args.reader.now.read.origin.now in
    let location = c.args.reader.now.read.location.now in
    let whole : AreWholeRuns t location d c.runs-runs.result.now =
    subst (λ (l : List Run). AreWholeRuns t location d l) (sym c.runs-runs.ensures) (whole_runs t c.recall_invariant.ensures c.args.writers.now.by_value c.requires.by_value c.requires.value_kind location d) in
    let exact : IsOwnExact t r origin location d c.own_source-own.result = c.own_source-own.ensures.exact in
    let takes = c.in_ok-bar_taken_runs.ensures.only location exact whole in
    let mid = c.bar_taken_runs.new.orders.items in
    let asked : OrderPair → Type 0 = λ o. IsPieceOrder t r pieces origin location d o ⊎ IsInitialOrder t r pieces origin location d o in
    adds_over c.args.orders.now.items mid c.bar_taken_start.new.orders.items (IsInitialOrder t r pieces origin location d) asked (λ o h. inr h)
    (adds_over c.args.orders.now.items c.args.orders.now.items mid (IsPieceOrder t r pieces origin location d) asked (λ o h. inl h) (λ o h. inl h) takes.0) c.in_ok-is_left.ensures.only

pub returns-clause-stretches : goal.returns-clause-stretches
returns-clause-stretches c =
    let t = c.args.trace.now in
    let r = c.args.reader.now.operation in
    let d = c.args.reader.now.read.value in
    let pieces = c.args.reader.now.pieces.now in
    let origin = c.args.reader.now.read.origin.now in
    let location = c.args.reader.now.read.location.now in
    let whole : AreWholeRuns t location d c.runs-runs.result.now =
    subst (λ (l : List Run). AreWholeRuns t location d l) (sym c.runs-runs.ensures) (whole_runs t c.recall_invariant.ensures c.args.writers.now.by_value c.requires.by_value c.requires.value_kind location d) in
    let exact : IsOwnExact t r origin location d c.own_source-own.result = c.own_source-own.ensures.exact in
    (c.in_ok-bar_taken_runs.ensures.only location exact whole).1

pub returns-in_err-bar_taken_runs-clause-refused : goal.returns-in_err-bar_taken_runs-clause-refused
returns-in_err-bar_taken_runs-clause-refused c =
    let t = c.args.trace.now in
    let r = c.args.reader.now.operation in
    let d = c.args.reader.now.read.value in
    let pieces = c.args.reader.now.pieces.now in
    let origin = c.args.reader.now.read.origin.now in
    let location = c.args.reader.now.read.location.now in
    let whole : AreWholeRuns t location d c.runs-runs.result.now =
    subst (λ (l : List Run). AreWholeRuns t location d l) (sym c.runs-runs.ensures) (whole_runs t c.recall_invariant.ensures c.args.writers.now.by_value c.requires.by_value c.requires.value_kind location d) in
    let exact : IsOwnExact t r origin location d c.own_source-own.result = c.own_source-own.ensures.exact in
    refusal_on (λ cause. (a : List ℕ) → IsOwnExact t r origin a d c.own_source-own.result → AreWholeRuns t a d c.runs-runs.result.now → IsPartlyRefused t r pieces origin a d cause) (IsPartlyRefused t r pieces origin location d) c.from_residual.result c.in_err-bar_taken_runs.field-0.0 c.from_residual.ensures.1
    (λ cause h. h location exact whole) c.in_err-bar_taken_runs.ensures.refused
