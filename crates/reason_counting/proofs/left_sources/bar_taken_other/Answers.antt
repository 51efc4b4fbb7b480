use Rattle.std.proofs.Common.{ℕ, List}
use Rattle.reason_clauses.specs.PossibleSources.{IsOtherRun}
use Rattle.reason_clauses.specs.SourceRefused.{IsPartlyRefused}
use Rattle.reason_clauses.specs.StretchOrders.{IsTakenRefused}
use Rattle.reason_clauses.proofs.RefusedLemmas.{refusal_on}
use Rattle.reason_clauses.proofs.StretchLemmas.{run_sources}
use Rattle.reason_counting.proofs.LeftLemmas.{run_left}
use Rattle.reason_counting.proofs.OtherLemmas.{refusals, takes_only}
use Rattle.reason_counting.proofs.left_sources.bar_taken_other.Goals as goal

pub returns-clause-bars : goal.returns-clause-bars
returns-clause-bars c own =
    run_left c.args.trace.now c.recall_invariant.ensures c.bar_taken.new.orders.items c.bar_taken.new.left.items c.args.reader.now.read.value c.args.reader.now.operation c.args.reader.now.pieces.now c.args.reader.now.read.origin.now own c.args.run.now c.stretches_allowed-s.result c.of_process-piece.result
    c.in_ok-bar_taken.ensures.bars c.of_process-piece.ensures.listed c.in_ok-bar_taken.ensures.kept c.stretches_allowed-s.ensures.taken c.stretches_allowed-s.ensures.most

pub returns-clause-only : goal.returns-clause-only
returns-clause-only c location whole =
    let t = c.args.trace.now in
    let r = c.args.reader.now.operation in
    let d = c.args.reader.now.read.value in
    let pieces = c.args.reader.now.pieces.now in
    let run = c.args.run.now in
    let piece = c.of_process-piece.result in
    let s = c.stretches_allowed-s.result in
    takes_only t r pieces c.args.reader.now.read.origin.now location d run.process piece c.of_process-piece.ensures.is s (run_sources t r pieces c.args.reader.now.read.origin.now location d run piece.bound piece.limit s whole c.stretches_allowed-s.ensures.only)
    c.args.orders.now.items c.bar_taken.new.orders.items c.args.left.now.items c.bar_taken.new.left.items c.in_ok-bar_taken.ensures.only c.in_ok-bar_taken.ensures.left

pub returns-in_err-bar_taken-clause-refused : goal.returns-in_err-bar_taken-clause-refused
returns-in_err-bar_taken-clause-refused c =
    let t = c.args.trace.now in
    let r = c.args.reader.now.operation in
    let d = c.args.reader.now.read.value in
    let pieces = c.args.reader.now.pieces.now in
    let run = c.args.run.now in
    let piece = c.of_process-piece.result in
    let s = c.stretches_allowed-s.result in
    refusal_on (IsTakenRefused run.process s piece.witness) (λ cause. (location : List ℕ) → IsOtherRun t r location d run → IsPartlyRefused t r pieces c.args.reader.now.read.origin.now location d cause) c.from_residual.result c.in_err-bar_taken.field-0.0 c.from_residual.ensures.1
    (λ cause h location whole.
    refusals t r pieces c.args.reader.now.read.origin.now location d run.process piece c.of_process-piece.ensures.is s (run_sources t r pieces c.args.reader.now.read.origin.now location d run piece.bound piece.limit s whole c.stretches_allowed-s.ensures.only) cause h) c.in_err-bar_taken.ensures.refused
