use Rattle.std.specs.Prelude.{⊤}
use Rattle.reason_clauses.specs.Mains.{IsGivenMain}
use Rattle.reason_clauses.specs.Numbered.{IsGivenFront, IsInHidden, IsFrom}
use Rattle.reason_clauses.proofs.NumberedLemmas.{grows_over, bars_more, bars_all}
use Rattle.reason_clauses.specs.StretchOrders.{IsTakenOrder, IsRestOrder, FromLater}
use Rattle.reason_clauses.specs.Numbered.{at_number}
use Rattle.reason_clauses.proofs.AddedLemmas.{adds_both}
use Rattle.reason_clauses.specs.AddedOrders.{IsOrder}
use Rattle.std.proofs.Common.{◌≤◌, ◌⊎◌, inl, inr}
use Rattle.reason_clauses.proofs.barring.bar_process.Goals as goal

pub returns-clause-grows : goal.returns-clause-grows
returns-clause-grows c =
    grows_over c.args.orders.now.items c.bar_from.new.orders.items c.bar_main.new.orders.items
    (grows_over c.args.orders.now.items c.bar_front.new.orders.items c.bar_from.new.orders.items c.in_ok-bar_front.ensures.grows c.in_ok-bar_from.ensures.grows) c.in_ok-bar_main.ensures.grows

pub returns-clause-bars : goal.returns-clause-bars
returns-clause-bars c =
    let last = c.bar_main.new.orders.items in
    bars_all last c.args.reader c.args.process c.args.s (λ t location d. IsGivenFront t location d c.args.reader c.args.witness) (λ t location d. IsGivenMain t location d c.args.reader c.args.main)
    (bars_more c.bar_front.new.orders.items last c.args.reader c.args.process (λ t location d. IsGivenFront t location d c.args.reader c.args.witness) (IsInHidden c.args.s) (grows_over c.bar_front.new.orders.items c.bar_from.new.orders.items last c.in_ok-bar_from.ensures.grows c.in_ok-bar_main.ensures.grows) c.in_ok-bar_front.ensures.bars)
    (bars_more c.bar_from.new.orders.items last c.args.reader c.args.process (λ t location d. ⊤) (IsFrom c.args.s.later) c.in_ok-bar_main.ensures.grows c.in_ok-bar_from.ensures.bars)
    c.in_ok-bar_main.ensures.bars

pub returns-clause-only : goal.returns-clause-only
returns-clause-only c =
    let r = c.args.reader in
    let q = c.args.process in
    let s = c.args.s in
    adds_both c.args.orders.now.items c.bar_from.new.orders.items c.bar_main.new.orders.items (IsTakenOrder r q s c.args.witness) (IsRestOrder r q s c.args.main) (λ o. IsTakenOrder r q s c.args.witness o ⊎ IsRestOrder r q s c.args.main o) (λ o h. inl h) (λ o h. inr h)
    (adds_both c.args.orders.now.items c.bar_front.new.orders.items c.bar_from.new.orders.items (IsTakenOrder r q s c.args.witness) (λ o. (1 ≤ s.later) × IsOrder (at_number q s.later) r o) (IsTakenOrder r q s c.args.witness) (λ o h. h) (λ o h. FromLater h.0 h.1)
    c.in_ok-bar_front.ensures.only c.in_ok-bar_from.ensures.only) c.in_ok-bar_main.ensures.only
