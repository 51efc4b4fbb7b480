use Rattle.std.proofs.Common.{ℕ, List, sym, subst}
use Rattle.trace_semantics.specs.declared.operation.Origin.{Origin}
use Rattle.reason_clauses.specs.PossibleSources.{IsOtherRun, IsOwnExact, IsWholeRun}
use Rattle.reason_clauses.specs.SourceRefused.{IsReaderRefused}
use Rattle.reason_clauses.proofs.RefusedLemmas.{refusal_on}
use Rattle.writer_table.specs.declared.operation_place.OperationPlace.{OperationPlace}
use Rattle.reason_clauses.specs.Barred.{IsPlaceBarred}
use Rattle.reason_clauses.proofs.source.bar_run.Goals as goal

pub returns-in_ok-bar_own-clause-bars : goal.returns-in_ok-bar_own-clause-bars
returns-in_ok-bar_own-clause-bars c known k there allowed own_is =
    let process = sym c.if-run-reader.true in
    let place = sym (own_is c.if-run-reader.true) in
    subst (λ (n : OperationPlace). IsPlaceBarred c.args.trace.now c.bar_own.new.orders.items c.args.reader.now.operation c.args.reader.now.pieces.now n) (λ i. record { process = process i; place = place i }) c.in_ok-bar_own.ensures.bars

pub returns-in_ok-bar_other-clause-bars : goal.returns-in_ok-bar_other-clause-bars
returns-in_ok-bar_other-clause-bars c = c.in_ok-bar_other.ensures.bars c.args.own

pub returns-in_ok-bar_own-clause-only : goal.returns-in_ok-bar_own-clause-only
returns-in_ok-bar_own-clause-only c location d whole exact = c.in_ok-bar_own.ensures.only c.args.reader.now.read.origin.now location d exact

pub returns-in_ok-bar_other-clause-only : goal.returns-in_ok-bar_other-clause-only
returns-in_ok-bar_other-clause-only c location d whole exact = c.in_ok-bar_other.ensures.only location d (whole, c.if-run-reader.false)

pub returns-in_err-bar_own-clause-refused : goal.returns-in_err-bar_own-clause-refused
returns-in_err-bar_own-clause-refused c =
    let t = c.args.trace.now in
    let r = c.args.reader.now.operation in
    let pieces = c.args.reader.now.pieces.now in
    refusal_on (λ cause. (origin : Origin) (location : List ℕ) (d : ℕ) → IsOwnExact t r origin location d c.args.own → IsReaderRefused t r pieces origin location d cause)
    (λ cause. (location : List ℕ) (d : ℕ) → IsWholeRun t location d c.args.run.now → IsOwnExact t r c.args.reader.now.read.origin.now location d c.args.own → IsReaderRefused t r pieces c.args.reader.now.read.origin.now location d cause)
    c.from_residual.result c.in_err-bar_own.field-0.0 c.from_residual.ensures.1 (λ cause h location d whole exact. h c.args.reader.now.read.origin.now location d exact) c.in_err-bar_own.ensures.refused

pub returns-in_err-bar_other-clause-refused : goal.returns-in_err-bar_other-clause-refused
returns-in_err-bar_other-clause-refused c =
    let t = c.args.trace.now in
    let r = c.args.reader.now.operation in
    let pieces = c.args.reader.now.pieces.now in
    refusal_on (λ cause. (location : List ℕ) (d : ℕ) → IsOtherRun t r location d c.args.run.now → IsReaderRefused t r pieces c.args.reader.now.read.origin.now location d cause)
    (λ cause. (location : List ℕ) (d : ℕ) → IsWholeRun t location d c.args.run.now → IsOwnExact t r c.args.reader.now.read.origin.now location d c.args.own → IsReaderRefused t r pieces c.args.reader.now.read.origin.now location d cause)
    c.from_residual-in_err-bar_other.result c.in_err-bar_other.field-0.0 c.from_residual-in_err-bar_other.ensures.1 (λ cause h location d whole exact. h location d (whole, c.if-run-reader.false)) c.in_err-bar_other.ensures.refused
