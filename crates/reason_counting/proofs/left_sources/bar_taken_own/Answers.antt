use Rattle.std.proofs.Common.{◌≡◌, ◌⊎◌, ℕ, List, arith, inl, inr}
use Rattle.trace_semantics.specs.declared.operation.Origin.{Origin}
use Rattle.reason_clauses.specs.Numbered.{at_number}
use Rattle.reason_clauses.specs.PossibleSources.{IsOwnExact, IsPossibleSource}
use Rattle.reason_clauses.specs.SourceRefused.{IsPartlyRefused}
use Rattle.reason_clauses.specs.StretchOrders.{IsTakenRefused}
use Rattle.reason_clauses.proofs.RefusedLemmas.{refusal_on}
use Rattle.reason_clauses.proofs.StretchLemmas.{own_sources}
use Rattle.reason_counting.proofs.OtherLemmas.{own_there, refusals, takes_only}
use Rattle.reason_counting.proofs.LeftLemmas.{own_place_left}
use Rattle.reason_counting.proofs.left_sources.bar_taken_own.Goals as goal

pub returns-clause-bars : goal.returns-clause-bars
returns-clause-bars c =
    let none = c.if-own-eq0.false in
    own_place_left c.args.trace.now c.recall_invariant.ensures c.bar_taken.new.orders.items c.bar_taken.new.left.items c.args.reader.now.read.value c.args.reader.now.operation c.args.reader.now.pieces.now c.args.reader.now.operation.process c.args.own c.stretches_of_one-s.result c.of_process-piece.result
    c.in_ok-bar_taken.ensures.bars c.of_process-piece.ensures.listed c.in_ok-bar_taken.ensures.kept (omega (arith, none)) c.stretches_of_one-s.ensures.most (c.stretches_of_one-s.ensures.taken (omega (arith, none)))

pub returns-clause-only : goal.returns-clause-only
returns-clause-only c origin location may =
    let t = c.args.trace.now in
    let r = c.args.reader.now.operation in
    let d = c.args.reader.now.read.value in
    let pieces = c.args.reader.now.pieces.now in
    let piece = c.of_process-piece.result in
    let s = c.stretches_of_one-s.result in
    let source : IsPossibleSource t r origin location d (at_number r.process c.args.own) = own_there t r origin location d c.args.own c.if-own-eq0.false may in
    takes_only t r pieces origin location d r.process piece c.of_process-piece.ensures.is s (own_sources t r pieces origin location d c.args.own piece.bound piece.limit s source c.stretches_of_one-s.ensures.only)
    c.args.orders.now.items c.bar_taken.new.orders.items c.args.left.now.items c.bar_taken.new.left.items c.in_ok-bar_taken.ensures.only c.in_ok-bar_taken.ensures.left

pub returns-in_err-bar_taken-clause-refused : goal.returns-in_err-bar_taken-clause-refused
returns-in_err-bar_taken-clause-refused c =
    let t = c.args.trace.now in
    let r = c.args.reader.now.operation in
    let d = c.args.reader.now.read.value in
    let pieces = c.args.reader.now.pieces.now in
    let piece = c.of_process-piece.result in
    let s = c.stretches_of_one-s.result in
    refusal_on (IsTakenRefused r.process s piece.witness) (λ cause. (origin : Origin) (location : List ℕ) → IsOwnExact t r origin location d c.args.own → IsPartlyRefused t r pieces origin location d cause) c.from_residual.result c.in_err-bar_taken.field-0.0 c.from_residual.ensures.1
    (λ cause h origin location may.
    refusals t r pieces origin location d r.process piece c.of_process-piece.ensures.is s
    (own_sources t r pieces origin location d c.args.own piece.bound piece.limit s (own_there t r origin location d c.args.own c.if-own-eq0.false may) c.stretches_of_one-s.ensures.only) cause h) c.in_err-bar_taken.ensures.refused
