-- Why orders make no clause.
use Rattle.std.specs.Prelude.{◌≡◌, ◌≤◌, ◌⊎◌, List, length}
use Rattle.std.specs.List.{Contains}
use Rattle.order_clauses.specs.declared.order_pair.OrderPair.{OrderPair}
use Rattle.order_clauses.specs.Turned.{turned}

-- one of the order and these others always stands: program order has the order or its opposite, or the opposite is among the others
abbrev pub IsAlwaysTrue : List OrderPair → OrderPair → Type 0
IsAlwaysTrue others order = (order.first.process ≡ order.second.process) ⊎ Contains others (turned order)

-- one of the orders always stands
abbrev pub AreAlwaysTrue : List OrderPair → Type 0
AreAlwaysTrue orders = (order : OrderPair) × Contains orders order × IsAlwaysTrue orders order

-- there are as many variables as can be numbered
abbrev pub AreFull : List OrderPair → Type 0
AreFull variables = 4194304 ≤ length variables
