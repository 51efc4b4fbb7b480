use Rattle.std.proofs.Common.{◌⊎◌, ℕ, List}
use Rattle.reason_clauses.specs.PossibleSources.{IsOtherRun}
use Rattle.reason_clauses.specs.SourceRefused.{IsReaderRefused, IsStretchOrder}
use Rattle.reason_clauses.specs.StretchOrders.{IsTakenOrder, IsRestOrder, IsTakenRefused, IsRestRefused}
use Rattle.reason_clauses.proofs.AddedLemmas.{adds_weaker}
use Rattle.reason_clauses.proofs.RefusedLemmas.{refusal_on}
use Rattle.reason_clauses.proofs.StretchLemmas.{run_sources, order_by, refused_by}
use Rattle.reason_clauses.proofs.SourceLemmas.{run_barred}
use Rattle.reason_clauses.proofs.source.bar_other.Goals as goal

pub returns-clause-bars : goal.returns-clause-bars
returns-clause-bars c own =
    run_barred c.args.trace.now c.recall_invariant.ensures c.bar_process.new.orders.items c.args.reader.now.operation c.args.reader.now.pieces.now c.args.reader.now.read.origin.now own c.args.run.now c.stretches_allowed-s.result c.of_process-piece.result c.others.result
    c.in_ok-bar_process.ensures.bars c.of_process-piece.ensures.listed c.others.ensures c.stretches_allowed-s.ensures.taken c.stretches_allowed-s.ensures.most

pub returns-clause-only : goal.returns-clause-only
returns-clause-only c location d other =
    let t = c.args.trace.now in
    let r = c.args.reader.now.operation in
    let pieces = c.args.reader.now.pieces.now in
    let run = c.args.run.now in
    let s = c.stretches_allowed-s.result in
    let piece = c.of_process-piece.result in
    let main = c.others.result in
    adds_weaker c.args.orders.now.items c.bar_process.new.orders.items (λ o. IsTakenOrder r run.process s piece.witness o ⊎ IsRestOrder r run.process s main o) (IsStretchOrder t r pieces c.args.reader.now.read.origin.now location d)
    (order_by t r pieces c.args.reader.now.read.origin.now location d run.process s piece main c.of_process-piece.ensures.is c.others.ensures (run_sources t r pieces c.args.reader.now.read.origin.now location d run piece.bound piece.limit s other c.stretches_allowed-s.ensures.only))
    c.in_ok-bar_process.ensures.only

pub returns-in_err-bar_process-clause-refused : goal.returns-in_err-bar_process-clause-refused
returns-in_err-bar_process-clause-refused c =
    let t = c.args.trace.now in
    let r = c.args.reader.now.operation in
    let pieces = c.args.reader.now.pieces.now in
    let run = c.args.run.now in
    let s = c.stretches_allowed-s.result in
    let piece = c.of_process-piece.result in
    let main = c.others.result in
    refusal_on (λ cause. IsTakenRefused run.process s piece.witness cause ⊎ IsRestRefused run.process s main cause) (λ cause. (location : List ℕ) (d : ℕ) → IsOtherRun t r location d run → IsReaderRefused t r pieces c.args.reader.now.read.origin.now location d cause)
    c.from_residual.result c.in_err-bar_process.field-0.0 c.from_residual.ensures.1
    (λ cause h location d other. refused_by t r pieces c.args.reader.now.read.origin.now location d run.process s piece main c.of_process-piece.ensures.is c.others.ensures (run_sources t r pieces c.args.reader.now.read.origin.now location d run piece.bound piece.limit s other c.stretches_allowed-s.ensures.only) cause h)
    c.in_err-bar_process.ensures.refused
