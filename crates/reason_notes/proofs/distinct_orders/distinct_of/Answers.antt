use Rattle.std.proofs.Common.{List, subst, sym}
use Rattle.std.specs.List.{Contains}
use Rattle.std.proofs.lemmas.List.{take_all}
use Rattle.order_clauses.specs.declared.order_pair.OrderPair.{OrderPair}
use Rattle.reason_notes.proofs.DistinctLemmas.{turn}
use Rattle.reason_notes.proofs.distinct_orders.distinct_of.Goals as goal

pub loop-order-preserved : goal.loop-order-preserved
loop-order-preserved c = turn c.args.orders.now c.loop-order.kept.items c.add_order.new.kept.items c.loop-order.order-index _ c.loop-order-test.true c.loop-order.invariant c.in_ok-add_order.ensures

pub returns : goal.returns
returns c = λ p m. c.loop-order.invariant p (subst (λ (l : List OrderPair). Contains l p) (sym (take_all c.loop-order.order-index c.args.orders.now c.loop-order-test.false)) m)
