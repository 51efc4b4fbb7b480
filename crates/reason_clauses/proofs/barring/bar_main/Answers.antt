use Rattle.std.proofs.Common.{◌≤◌, ◌⊎◌, subst, arith}
use Rattle.std.specs.Prelude.{⊤}
use Rattle.reason_clauses.specs.declared.barring.MainPiece.{MainPiece}
use Rattle.reason_clauses.specs.Mains.{IsGivenMain}
use Rattle.order_clauses.specs.Numbered.{IsKnown}
use Rattle.reason_clauses.specs.Numbered.{at_number, IsGivenWitness, IsFrom, IsInMain}
use Rattle.reason_clauses.specs.AddedOrders.{IsOrder}
use Rattle.reason_clauses.specs.StretchOrders.{IsRestOrder, RestToReader}
use Rattle.reason_clauses.proofs.NumberedLemmas.{bars_other, bars_apart}
use Rattle.reason_clauses.proofs.StretchLemmas.{witness_orders, between_orders}
use Rattle.reason_clauses.proofs.AddedLemmas.{adds_weaker}
use Rattle.reason_clauses.proofs.barring.bar_main.Goals as goal

pub returns-in_ok-bar_from-in-Plain-clause-bars : goal.returns-in_ok-bar_from-in-Plain-clause-bars
returns-in_ok-bar_from-in-Plain-clause-bars c =
    bars_other c.bar_from.new.orders.items c.args.reader c.args.process (λ t location d. ⊤) (λ t location d. IsGivenMain t location d c.args.reader c.args.main)
    (IsFrom c.args.s.first) (IsInMain c.args.s) (λ t location d g. tt) (λ n p h. (h.0, h.1)) c.in_ok-bar_from-in-Plain.ensures.bars

pub returns-in_ok-bar_up_to-in-Witness-clause-bars : goal.returns-in_ok-bar_up_to-in-Witness-clause-bars
returns-in_ok-bar_up_to-in-Witness-clause-bars c =
    bars_other c.bar_up_to.new.orders.items c.args.reader c.args.process (λ t location d. IsGivenWitness t location d c.args.reader c.in-Witness.x) (λ t location d. IsGivenMain t location d c.args.reader c.args.main)
    (λ n p. (p ≤ c.args.s.last) × (c.args.s.last ≤ n)) (IsInMain c.args.s) (λ t location d g. subst (λ (m : MainPiece). IsGivenMain t location d c.args.reader m) c.in-Witness.is g) (λ n p h. (h.2, h.3)) c.in_ok-bar_up_to-in-Witness.ensures.bars

pub returns-in_ok-bar_apart-in-Between-clause-bars : goal.returns-in_ok-bar_apart-in-Between-clause-bars
returns-in_ok-bar_apart-in-Between-clause-bars c =
    bars_other c.bar_apart.new.orders.items c.args.reader c.args.process (λ t location d. IsKnown t c.in-Between.u) (λ t location d. IsGivenMain t location d c.args.reader c.args.main)
    (IsInMain c.args.s) (IsInMain c.args.s) (λ t location d g. subst (λ (m : MainPiece). IsGivenMain t location d c.args.reader m) c.in-Between.is g) (λ n p h. h) (bars_apart c.bar_apart.new.orders.items c.args.reader c.in-Between.u c.args.process c.args.s c.in_ok-bar_apart-in-Between.ensures.apart)

pub returns-in_ok-bar_from-in-Plain-clause-only : goal.returns-in_ok-bar_from-in-Plain-clause-only
returns-in_ok-bar_from-in-Plain-clause-only c =
    adds_weaker c.args.orders.now.items c.bar_from.new.orders.items (λ o. (1 ≤ c.args.s.first) × IsOrder (at_number c.args.process c.args.s.first) c.args.reader o) (IsRestOrder c.args.reader c.args.process c.args.s c.args.main)
    (λ o h. RestToReader h.0 c.in-Plain.is h.1) c.in_ok-bar_from-in-Plain.ensures.only

pub returns-in_ok-bar_up_to-in-Witness-clause-only : goal.returns-in_ok-bar_up_to-in-Witness-clause-only
returns-in_ok-bar_up_to-in-Witness-clause-only c =
    let some : 1 ≤ c.args.s.first = (let none = c.if-s-eq0.false in omega (arith, none)) in
    adds_weaker c.args.orders.now.items c.bar_up_to.new.orders.items (λ o. IsOrder c.in-Witness.x (at_number c.args.process c.args.s.last) o ⊎ IsOrder c.args.reader c.in-Witness.x o) (IsRestOrder c.args.reader c.args.process c.args.s c.args.main)
    (witness_orders c.args.reader c.args.process c.args.s c.args.main c.in-Witness.x some c.in-Witness.is) c.in_ok-bar_up_to-in-Witness.ensures.only

pub returns-in_ok-bar_apart-in-Between-clause-only : goal.returns-in_ok-bar_apart-in-Between-clause-only
returns-in_ok-bar_apart-in-Between-clause-only c =
    let some : 1 ≤ c.args.s.first = (let none = c.if-s-eq0.false in omega (arith, none)) in
    adds_weaker c.args.orders.now.items c.bar_apart.new.orders.items (λ o. IsOrder (at_number c.args.process c.args.s.first) c.in-Between.u o ⊎ IsOrder c.in-Between.u c.args.reader o) (IsRestOrder c.args.reader c.args.process c.args.s c.args.main)
    (between_orders c.args.reader c.args.process c.args.s c.args.main c.in-Between.u some c.in-Between.is) c.in_ok-bar_apart-in-Between.ensures.only
