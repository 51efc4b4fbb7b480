-- An order of two operations, turned round.
use Rattle.order_clauses.specs.declared.order_pair.OrderPair.{OrderPair}

abbrev pub turned : OrderPair → OrderPair
turned order = record { first = order.second; second = order.first }
