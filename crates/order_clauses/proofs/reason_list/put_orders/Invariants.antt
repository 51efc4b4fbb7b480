use Rattle.std.proofs.Common.{◌≡◌, [], take}
use Rattle.order_clauses.specs.ClauseOf.{IsClauseOf}
use Rattle.order_clauses.specs.OrderVariables.{IsExtended}
use Rattle.order_clauses.proofs.reason_list.put_orders.Given as goal

abbrev pub invariant-loop-order : goal.invariant-loop-order
invariant-loop-order l = IsExtended l.fn.variables l.variables × (l.fn.literals.items ≡ [] → IsClauseOf l.variables (take l.order-index l.orders) l.literals.items)
