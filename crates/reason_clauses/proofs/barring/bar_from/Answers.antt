use Rattle.reason_clauses.proofs.NumberedLemmas.{bars_from}
use Rattle.reason_clauses.specs.Numbered.{at_number}
use Rattle.reason_clauses.proofs.AddedLemmas.{adds_weaker}
use Rattle.reason_clauses.specs.AddedOrders.{IsOrder}
use Rattle.std.proofs.Common.{◌≤◌, arith}
use Rattle.reason_clauses.proofs.barring.bar_from.Goals as goal

pub returns-clause-bars : goal.returns-clause-bars
returns-clause-bars c = bars_from c.push_order.new.orders.items c.args.reader c.args.process c.args.place c.in_ok-push_order.ensures.says

pub returns-clause-only : goal.returns-clause-only
returns-clause-only c =
    let some : 1 ≤ c.args.place = (let none = c.if-place-eq0.false in omega (arith, none)) in
    adds_weaker c.args.orders.now.items c.push_order.new.orders.items (IsOrder (at_number c.args.process c.args.place) c.args.reader) (λ o. (1 ≤ c.args.place) × IsOrder (at_number c.args.process c.args.place) c.args.reader o) (λ o h. (some, h)) c.in_ok-push_order.ensures.only
