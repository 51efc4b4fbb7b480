use Rattle.std.proofs.Common.{◌⊎◌, inl}
use Rattle.reason_clauses.specs.StretchOrders.{IsTakenOrder, IsRestOrder, IsTakenRefused, IsRestRefused}
use Rattle.reason_clauses.specs.declared.barring.MainPiece.TheVariants.{Plain}
use Rattle.reason_clauses.proofs.AddedLemmas.{adds_over}
use Rattle.reason_clauses.proofs.RefusedLemmas.{refusal_on}
use Rattle.reason_counting.specs.Left.{without_main}
use Rattle.reason_counting.proofs.LeftLemmas.{taken_orders, taken_refusals}
use Rattle.reason_counting.proofs.left_sources.bar_taken.Goals as goal

pub returns-clause-only : goal.returns-clause-only
returns-clause-only c =
    let r = c.args.reader.now.operation in
    let q = c.args.process in
    let s = c.args.s in
    adds_over c.args.orders.now.items c.args.orders.now.items c.bar_process.new.orders.items (λ o. IsTakenOrder r q (without_main s) c.args.witness o ⊎ IsRestOrder r q (without_main s) Plain o) (IsTakenOrder r q s c.args.witness) (taken_orders r q s c.args.witness) (λ o d. inl d) c.in_ok-bar_process.ensures.only

pub returns-in_err-bar_process-clause-refused : goal.returns-in_err-bar_process-clause-refused
returns-in_err-bar_process-clause-refused c =
    let q = c.args.process in
    let s = c.args.s in
    refusal_on (λ cause. IsTakenRefused q (without_main s) c.args.witness cause ⊎ IsRestRefused q (without_main s) Plain cause) (IsTakenRefused q s c.args.witness) c.from_residual.result c.in_err-bar_process.field-0.0 c.from_residual.ensures.1
    (taken_refusals q s c.args.witness) c.in_err-bar_process.ensures.refused
