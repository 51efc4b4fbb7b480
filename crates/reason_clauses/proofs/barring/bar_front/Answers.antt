use Rattle.std.proofs.Common.{◌≤◌, ◌⊎◌, arith}
use Rattle.reason_clauses.specs.Numbered.{at_number, IsGivenWitness, IsGivenFront, IsInHidden}
use Rattle.reason_clauses.specs.AddedOrders.{IsOrder}
use Rattle.reason_clauses.specs.StretchOrders.{IsTakenOrder}
use Rattle.reason_clauses.proofs.NumberedLemmas.{bars_other}
use Rattle.reason_clauses.proofs.StretchLemmas.{front_orders}
use Rattle.reason_clauses.proofs.AddedLemmas.{adds_weaker}
use Rattle.reason_clauses.proofs.barring.bar_front.Goals as goal

pub returns-clause-bars : goal.returns-clause-bars
returns-clause-bars c =
    bars_other c.bar_up_to.new.orders.items c.args.reader c.args.process (λ t location d. IsGivenWitness t location d c.args.reader c.in-Some.x) (λ t location d. IsGivenFront t location d c.args.reader c.args.witness)
    (λ n p. (p ≤ c.args.s.hidden) × (c.args.s.hidden ≤ n)) (IsInHidden c.args.s) (λ t location d g. g c.in-Some.x c.in-Some.is) (λ n p h. h) c.in_ok-bar_up_to.ensures.bars

pub returns-clause-only : goal.returns-clause-only
returns-clause-only c =
    let some : 1 ≤ c.args.s.hidden = (let none = c.if-s-eq0.false in omega (arith, none)) in
    adds_weaker c.args.orders.now.items c.bar_up_to.new.orders.items (λ o. IsOrder c.in-Some.x (at_number c.args.process c.args.s.hidden) o ⊎ IsOrder c.args.reader c.in-Some.x o) (IsTakenOrder c.args.reader c.args.process c.args.s c.args.witness)
    (front_orders c.args.reader c.args.process c.args.s c.args.witness c.in-Some.x some c.in-Some.is) c.in_ok-bar_up_to.ensures.only
