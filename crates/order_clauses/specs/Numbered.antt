-- Operations by numbers, and orders of them.
use Rattle.std.specs.Prelude.{◌<◌, List, [], map, length, slice_index_or, IsSome}
use Rattle.trace_semantics.specs.declared.operation.OpName.{OpName}
use Rattle.trace_semantics.specs.declared.trace.Process.{Process}
use Rattle.trace_semantics.specs.Trace.{TraceValue, operation_at}
use Rattle.writer_table.specs.declared.operation_place.OperationPlace.{OperationPlace}
use Rattle.order_clauses.specs.declared.order_pair.OrderPair.{OrderPair}

-- the name of an operation by numbers
abbrev pub named : TraceValue → OperationPlace → OpName
named t n = record { process = slice_index_or (map (λ (p : Process). p.name) t.processes) n.process []; place = n.place }

-- the numbers are of an operation of the trace
abbrev pub IsKnown : TraceValue → OperationPlace → Type 0
IsKnown t n = (n.process < length t.processes) × IsSome (operation_at t (named t n))

-- an order by names
abbrev pub named_order : TraceValue → OrderPair → OpName × OpName
named_order t order = (named t order.first, named t order.second)

-- what orders by numbers say
abbrev pub named_orders : TraceValue → List OrderPair → List (OpName × OpName)
named_orders t orders = map (named_order t) orders
