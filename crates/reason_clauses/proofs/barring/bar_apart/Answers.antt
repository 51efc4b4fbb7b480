use Rattle.reason_clauses.proofs.NumberedLemmas.{grows_over, parts}
use Rattle.reason_clauses.proofs.AddedLemmas.{adds_both}
use Rattle.reason_clauses.specs.AddedOrders.{IsOrder}
use Rattle.std.proofs.Common.{◌⊎◌, inl, inr}
use Rattle.reason_clauses.proofs.barring.bar_apart.Goals as goal

pub returns-clause-grows : goal.returns-clause-grows
returns-clause-grows c = grows_over c.args.orders.now.items c.push_order.new.orders.items c.push_order-2.new.orders.items c.in_ok-push_order.ensures.grows c.in_ok-push_order-2.ensures.grows

pub returns-clause-apart : goal.returns-clause-apart
returns-clause-apart c = parts c.push_order.new.orders.items c.push_order-2.new.orders.items c.args.reader c.args.bound c.args.between c.in_ok-push_order.ensures.says c.in_ok-push_order-2.ensures.grows c.in_ok-push_order-2.ensures.says

pub returns-clause-only : goal.returns-clause-only
returns-clause-only c =
    adds_both c.args.orders.now.items c.push_order.new.orders.items c.push_order-2.new.orders.items (IsOrder c.args.bound c.args.between) (IsOrder c.args.between c.args.reader)
    (λ o. IsOrder c.args.bound c.args.between o ⊎ IsOrder c.args.between c.args.reader o) (λ o h. inl h) (λ o h. inr h) c.in_ok-push_order.ensures.only c.in_ok-push_order-2.ensures.only
