use Rattle.std.proofs.Common.{List, sym, subst, arith}
use Rattle.order_clauses.specs.declared.order_pair.OrderPair.{OrderPair}
use Rattle.reason_clauses.specs.AddedOrders.{AddsOnly, IsOpen, IsOrder}
use Rattle.reason_clauses.specs.Numbered.{Grows}
use Rattle.reason_clauses.proofs.AddedLemmas.{adds_one}
use Rattle.reason_clauses.proofs.NumberedLemmas.{grows_one}
use Rattle.reason_clauses.proofs.orders.push_order.Goals as goal
use Rattle.reason_clauses.proofs.orders.push_order.Goals.{else-first-second-via-then-first-second+else-second-first, else-first-second-via-else-first-second}

pub returns-clause-grows : goal.returns-clause-grows
returns-clause-grows c = subst (λ (l : List OrderPair). Grows c.args.orders.now.items l) (sym c.in_ok-push.ensures.items) (grows_one c.args.orders.now.items (record { first = c.args.first; second = c.args.second }))

pub returns-clause-only : goal.returns-clause-only
returns-clause-only c =
    let order : OrderPair = record { first = c.args.first; second = c.args.second } in
    let allowed : IsOpen order = λ same. elim c.else-first-second.branch [
      | else-first-second-via-then-first-second+else-second-first w ↦ (let below = w.if-second-first.false in omega (arith, below))
      | else-first-second-via-else-first-second w ↦ absurd (w.if-first-second.false same)
    ] in
    subst (λ (l : List OrderPair). AddsOnly c.args.orders.now.items l (IsOrder c.args.first c.args.second)) (sym c.in_ok-push.ensures.items) (adds_one c.args.orders.now.items order allowed)
