-- An order as rows of numbers: for each operation and each process, the last place there that is known to stand before it.
use Rattle.std.specs.Prelude.{◌≡◌, ◌≤◌, nat_le, slice_index_or, ℕ, Some, Bool, List, [], length}
use Rattle.std.specs.List.{slice_get}
use Rattle.trace_semantics.specs.declared.operation.OpName.{OpName}
use Rattle.trace_semantics.specs.declared.trace.Process.{Process}
use Rattle.trace_semantics.specs.PairOrder.{order_of}
use Rattle.trace_semantics.specs.Trace.{TraceValue}
use Rattle.forced_order.specs.declared.numbered.OperationNumber.{OperationNumber}

-- the rows of each process by place, of which no operation has the one at 0; in each row a number for each process
abbrev pub OrderValue : Type 0
OrderValue = List (List (List ℕ))

-- the last place of the process that stands before the operation; 0 if none does
abbrev pub last_before : OrderValue → OperationNumber → ℕ → ℕ
last_before order n process = slice_index_or (slice_index_or (slice_index_or order n.process []) n.place []) process 0

-- the operation has a row, with a place for each of 64 processes
abbrev pub HasRow : OrderValue → OperationNumber → Type 0
HasRow order n = length (slice_index_or (slice_index_or order n.process []) n.place []) ≡ 64

-- each operation of the processes has a row, and each process one for the place 0
abbrev pub HasRows : List Process → OrderValue → Type 0
HasRows processes order = (j k : ℕ) (p : Process) → slice_get processes j ≡ Some p → k ≤ length p.operations → HasRow order (record { process = j; place = k })

-- the first stands before the second
abbrev pub stands_by : OrderValue → OperationNumber → OperationNumber → Bool
stands_by order m n = nat_le m.place (last_before order n m.process)

-- an operation by numbers
abbrev pub numbered : List Process → OpName → OperationNumber
numbered processes n = record { process = order_of processes n.process; place = n.place }

-- the order of names that the rows give
abbrev pub ordered_by : TraceValue → OrderValue → OpName → OpName → Bool
ordered_by t order m n = stands_by order (numbered t.processes m) (numbered t.processes n)
