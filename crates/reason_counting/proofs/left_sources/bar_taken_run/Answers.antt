use Rattle.std.proofs.Common.{ℕ, List, sym, subst}
use Rattle.trace_semantics.specs.declared.operation.Origin.{Origin}
use Rattle.writer_table.specs.declared.operation_place.OperationPlace.{OperationPlace}
use Rattle.reason_clauses.specs.PossibleSources.{IsOtherRun, IsOwnExact, IsWholeRun}
use Rattle.reason_clauses.specs.SourceRefused.{IsPartlyRefused}
use Rattle.reason_clauses.proofs.RefusedLemmas.{refusal_on}
use Rattle.reason_counting.specs.Left.{IsPlaceLeft}
use Rattle.reason_counting.proofs.left_sources.bar_taken_run.Goals as goal

pub returns-in_ok-bar_taken_own-clause-bars : goal.returns-in_ok-bar_taken_own-clause-bars
returns-in_ok-bar_taken_own-clause-bars c known k there allowed own_is =
    let process = sym c.if-run-reader.true in
    let place = sym (own_is c.if-run-reader.true) in
    subst (λ (n : OperationPlace). IsPlaceLeft c.args.trace.now c.bar_taken_own.new.orders.items c.bar_taken_own.new.left.items c.args.reader.now.read.value c.args.reader.now.operation c.args.reader.now.pieces.now n) (λ i. record { process = process i; place = place i }) c.in_ok-bar_taken_own.ensures.bars

pub returns-in_ok-bar_taken_other-clause-bars : goal.returns-in_ok-bar_taken_other-clause-bars
returns-in_ok-bar_taken_other-clause-bars c = c.in_ok-bar_taken_other.ensures.bars c.args.own

pub returns-in_ok-bar_taken_own-clause-only : goal.returns-in_ok-bar_taken_own-clause-only
returns-in_ok-bar_taken_own-clause-only c location may whole = c.in_ok-bar_taken_own.ensures.only c.args.reader.now.read.origin.now location may

pub returns-in_ok-bar_taken_other-clause-only : goal.returns-in_ok-bar_taken_other-clause-only
returns-in_ok-bar_taken_other-clause-only c location may whole = c.in_ok-bar_taken_other.ensures.only location (whole, c.if-run-reader.false)

pub returns-in_err-bar_taken_own-clause-refused : goal.returns-in_err-bar_taken_own-clause-refused
returns-in_err-bar_taken_own-clause-refused c =
    let t = c.args.trace.now in
    let r = c.args.reader.now.operation in
    let d = c.args.reader.now.read.value in
    let pieces = c.args.reader.now.pieces.now in
    refusal_on (λ cause. (origin : Origin) (location : List ℕ) → IsOwnExact t r origin location d c.args.own → IsPartlyRefused t r pieces origin location d cause)
    (λ cause. (location : List ℕ) → IsOwnExact t r c.args.reader.now.read.origin.now location d c.args.own → IsWholeRun t location d c.args.run.now → IsPartlyRefused t r pieces c.args.reader.now.read.origin.now location d cause) c.from_residual.result c.in_err-bar_taken_own.field-0.0 c.from_residual.ensures.1
    (λ cause h location may whole. h c.args.reader.now.read.origin.now location may) c.in_err-bar_taken_own.ensures.refused

pub returns-in_err-bar_taken_other-clause-refused : goal.returns-in_err-bar_taken_other-clause-refused
returns-in_err-bar_taken_other-clause-refused c =
    let t = c.args.trace.now in
    let r = c.args.reader.now.operation in
    let d = c.args.reader.now.read.value in
    let pieces = c.args.reader.now.pieces.now in
    refusal_on (λ cause. (location : List ℕ) → IsOtherRun t r location d c.args.run.now → IsPartlyRefused t r pieces c.args.reader.now.read.origin.now location d cause)
    (λ cause. (location : List ℕ) → IsOwnExact t r c.args.reader.now.read.origin.now location d c.args.own → IsWholeRun t location d c.args.run.now → IsPartlyRefused t r pieces c.args.reader.now.read.origin.now location d cause) c.from_residual-in_err-bar_taken_other.result c.in_err-bar_taken_other.field-0.0 c.from_residual-in_err-bar_taken_other.ensures.1
    (λ cause h location may whole. h location (whole, c.if-run-reader.false)) c.in_err-bar_taken_other.ensures.refused
