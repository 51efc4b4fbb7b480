-- The forced order by numbers.
use Rattle.std.specs.Prelude.{◌≡◌, ◌⊎◌, ℕ, Some, List, map}
use Rattle.std.specs.List.{slice_get}
use Rattle.trace_semantics.specs.declared.operation.OpName.{OpName}
use Rattle.trace_semantics.specs.declared.trace.Process.{Process}
use Rattle.trace_semantics.specs.Trace.{TraceValue}
use Rattle.forced_order.specs.declared.numbered.OperationNumber.{OperationNumber}
use Rattle.forced_order.specs.Order.{IsForced}
use Rattle.forced_order.specs.Rows.{OrderValue, last_before, numbered}

-- of two operations by numbers, the first is forced to stand before the second
pub record IsForcedByNumber (t : TraceValue) (m n : OperationNumber) : Type 0 where
  pub first : Process
  pub second : Process
  pub first_at : slice_get t.processes m.process ≡ Some first
  pub second_at : slice_get t.processes n.process ≡ Some second
  pub forced : IsForced t (record { process = first.name; place = m.place }) (record { process = second.name; place = n.place })

-- what the rows give as the last place before an operation is forced to stand before it
abbrev pub AreForced : TraceValue → OrderValue → Type 0
AreForced t order = (n : OperationNumber) (q : ℕ) → (last_before order n q ≡ 0) ⊎ IsForcedByNumber t (record { process = q; place = last_before order n q }) n

-- pairs of operations by numbers
abbrev pub numbered_pair : List Process → OpName × OpName → OperationNumber × OperationNumber
numbered_pair processes pair = (numbered processes pair.0, numbered processes pair.1)

-- the before pairs of a trace by numbers
abbrev pub numbered_pairs : TraceValue → List (OperationNumber × OperationNumber)
numbered_pairs t = map (numbered_pair t.processes) t.before
