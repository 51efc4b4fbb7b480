use Rattle.reason_clauses.proofs.NumberedLemmas.{grows_over, hides}
use Rattle.reason_clauses.proofs.AddedLemmas.{adds_both}
use Rattle.reason_clauses.specs.AddedOrders.{IsOrder}
use Rattle.std.proofs.Common.{◌⊎◌, inl, inr}
use Rattle.reason_clauses.proofs.barring.bar_hidden.Goals as goal

pub returns-clause-grows : goal.returns-clause-grows
returns-clause-grows c = grows_over c.args.orders.now.items c.push_order.new.orders.items c.push_order-2.new.orders.items c.in_ok-push_order.ensures.grows c.in_ok-push_order-2.ensures.grows

pub returns-clause-hidden : goal.returns-clause-hidden
returns-clause-hidden c = hides c.push_order.new.orders.items c.push_order-2.new.orders.items c.args.reader c.args.witness c.args.bound c.in_ok-push_order.ensures.says c.in_ok-push_order-2.ensures.grows c.in_ok-push_order-2.ensures.says

pub returns-clause-only : goal.returns-clause-only
returns-clause-only c =
    adds_both c.args.orders.now.items c.push_order.new.orders.items c.push_order-2.new.orders.items (IsOrder c.args.witness c.args.bound) (IsOrder c.args.reader c.args.witness)
    (λ o. IsOrder c.args.witness c.args.bound o ⊎ IsOrder c.args.reader c.args.witness o) (λ o h. inl h) (λ o h. inr h) c.in_ok-push_order.ensures.only c.in_ok-push_order-2.ensures.only
