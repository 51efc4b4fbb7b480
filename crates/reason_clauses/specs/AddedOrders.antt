-- Which orders a maker appends: those that its line asks for, and no others.
use Rattle.std.specs.Prelude.{◌≡◌, ◌<◌, ◌⊎◌, List}
use Rattle.std.specs.List.{Contains}
use Rattle.writer_table.specs.declared.operation_place.OperationPlace.{OperationPlace}
use Rattle.order_clauses.specs.declared.order_pair.OrderPair.{OrderPair}

-- program order does not deny the order
abbrev pub IsOpen : OrderPair → Type 0
IsOpen o = o.first.process ≡ o.second.process → o.first.place < o.second.place

-- each of the new orders is an old one, or one that is asked for, which program order does not deny
abbrev pub AddsOnly : List OrderPair → List OrderPair → (OrderPair → Type 0) → Type 0
AddsOnly old new IsAsked = (o : OrderPair) → Contains new o → Contains old o ⊎ (IsAsked o × IsOpen o)

-- the order is that m stands before n
abbrev pub IsOrder : OperationPlace → OperationPlace → OrderPair → Type 0
IsOrder m n o = (o.first ≡ m) × (o.second ≡ n)
