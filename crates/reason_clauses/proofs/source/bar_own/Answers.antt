use Rattle.std.proofs.Common.{◌⊎◌, ℕ, List, arith}
use Rattle.trace_semantics.specs.declared.operation.Origin.{Origin}
use Rattle.reason_clauses.specs.PossibleSources.{IsOwnExact}
use Rattle.reason_clauses.specs.SourceRefused.{IsReaderRefused, IsStretchOrder}
use Rattle.reason_clauses.specs.StretchOrders.{IsTakenOrder, IsRestOrder, IsTakenRefused, IsRestRefused}
use Rattle.reason_clauses.proofs.AddedLemmas.{adds_weaker}
use Rattle.reason_clauses.proofs.RefusedLemmas.{refusal_on}
use Rattle.reason_clauses.proofs.StretchLemmas.{own_in, own_sources, order_by, refused_by}
use Rattle.reason_clauses.proofs.SourceLemmas.{own_place_barred}
use Rattle.reason_clauses.proofs.source.bar_own.Goals as goal

pub returns-clause-bars : goal.returns-clause-bars
returns-clause-bars c =
    let none = c.if-own-eq0.false in
    own_place_barred c.args.trace.now c.recall_invariant.ensures c.bar_process.new.orders.items c.args.reader.now.operation c.args.reader.now.pieces.now c.args.reader.now.operation.process c.args.own c.stretches_of_one-s.result c.of_process-piece.result c.others.result
    c.in_ok-bar_process.ensures.bars c.of_process-piece.ensures.listed c.others.ensures (omega (arith, none)) c.stretches_of_one-s.ensures.most (c.stretches_of_one-s.ensures.taken (omega (arith, none)))

pub returns-clause-only : goal.returns-clause-only
returns-clause-only c origin location d exact =
    let t = c.args.trace.now in
    let r = c.args.reader.now.operation in
    let pieces = c.args.reader.now.pieces.now in
    let s = c.stretches_of_one-s.result in
    let piece = c.of_process-piece.result in
    let main = c.others.result in
    adds_weaker c.args.orders.now.items c.bar_process.new.orders.items (λ o. IsTakenOrder r r.process s piece.witness o ⊎ IsRestOrder r r.process s main o) (IsStretchOrder t r pieces origin location d)
    (order_by t r pieces origin location d r.process s piece main c.of_process-piece.ensures.is c.others.ensures (own_sources t r pieces origin location d c.args.own piece.bound piece.limit s (own_in t r pieces origin location d c.args.own c.if-own-eq0.false exact) c.stretches_of_one-s.ensures.only))
    c.in_ok-bar_process.ensures.only

pub returns-in_err-bar_process-clause-refused : goal.returns-in_err-bar_process-clause-refused
returns-in_err-bar_process-clause-refused c =
    let t = c.args.trace.now in
    let r = c.args.reader.now.operation in
    let pieces = c.args.reader.now.pieces.now in
    let s = c.stretches_of_one-s.result in
    let piece = c.of_process-piece.result in
    let main = c.others.result in
    refusal_on (λ cause. IsTakenRefused r.process s piece.witness cause ⊎ IsRestRefused r.process s main cause) (λ cause. (origin : Origin) (location : List ℕ) (d : ℕ) → IsOwnExact t r origin location d c.args.own → IsReaderRefused t r pieces origin location d cause)
    c.from_residual.result c.in_err-bar_process.field-0.0 c.from_residual.ensures.1
    (λ cause h origin location d exact. refused_by t r pieces origin location d r.process s piece main c.of_process-piece.ensures.is c.others.ensures (own_sources t r pieces origin location d c.args.own piece.bound piece.limit s (own_in t r pieces origin location d c.args.own c.if-own-eq0.false exact) c.stretches_of_one-s.ensures.only) cause h)
    c.in_err-bar_process.ensures.refused
