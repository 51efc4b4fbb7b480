-- Rows that no step of the forced order would raise.
use Rattle.std.specs.Prelude.{◌≡◌, ◌≤◌, ◌<◌, ◌+◌, true, ℕ, Some, List, length}
use Rattle.std.specs.List.{slice_get}
use Rattle.trace_semantics.specs.declared.trace.Process.{Process}
use Rattle.trace_semantics.specs.KnownOrder.{ends_before}
use Rattle.trace_semantics.specs.Trace.{TraceValue}
use Rattle.forced_order.specs.declared.numbered.OperationNumber.{OperationNumber}
use Rattle.forced_order.specs.Forced.{numbered_pairs}
use Rattle.forced_order.specs.Rows.{OrderValue, last_before}
use Rattle.forced_order.specs.Times.{span_by_number}

-- the first stands before the second, and so does what stands before the first
pub record IsClosedStep (order : OrderValue) (m n : OperationNumber) : Type 0 where
  pub first : m.place ≤ last_before order n m.process
  pub before : (q : ℕ) → q < 64 → last_before order m q ≤ last_before order n q

-- of a process with this number of operations, each step from one to the next
abbrev pub AreStepsClosed : OrderValue → ℕ → ℕ → Type 0
AreStepsClosed order process count = (k : ℕ) → 1 ≤ k → k < count → IsClosedStep order (record { process = process; place = k }) (record { process = process; place = k + 1 })

-- of each of the processes
abbrev pub AreProcessesClosed : List Process → OrderValue → Type 0
AreProcessesClosed processes order = (j : ℕ) (p : Process) → slice_get processes j ≡ Some p → AreStepsClosed order j (length p.operations)

-- each of the pairs
abbrev pub ArePairsClosed : List (OperationNumber × OperationNumber) → OrderValue → Type 0
ArePairsClosed pairs order = (j : ℕ) (pair : OperationNumber × OperationNumber) → slice_get pairs j ≡ Some pair → IsClosedStep order pair.0 pair.1

-- the step to n is closed from m, or from a later operation of the process of m
pub record IsClosedFrom (processes : List Process) (order : OrderValue) (m n : OperationNumber) : Type 0 where
  pub process : Process
  pub at : slice_get processes m.process ≡ Some process
  pub place : ℕ
  pub later : m.place ≤ place
  pub most : place ≤ length process.operations
  pub closed : IsClosedStep order (record { process = m.process; place = place }) n

-- the steps from the operations of a process that had ended before n began
abbrev pub IsClosedAfter : List Process → OrderValue → ℕ → OperationNumber → Type 0
IsClosedAfter processes order q n = (k : ℕ) → ends_before (span_by_number processes (record { process = q; place = k })) (span_by_number processes n) ≡ true → IsClosedFrom processes order (record { process = q; place = k }) n

-- those from all processes
abbrev pub IsTimeClosed : List Process → OrderValue → OperationNumber → Type 0
IsTimeClosed processes order n = (q : ℕ) → IsClosedAfter processes order q n

-- of a process with this number of operations, the steps to each
abbrev pub AreEndedClosed : List Process → OrderValue → ℕ → ℕ → Type 0
AreEndedClosed processes order process count = (k : ℕ) → k < count → IsTimeClosed processes order (record { process = process; place = k + 1 })

-- of each of the processes
abbrev pub AreTimesClosed : List Process → OrderValue → Type 0
AreTimesClosed processes order = (j : ℕ) (p : Process) → slice_get processes j ≡ Some p → AreEndedClosed processes order j (length p.operations)

-- each step of program order, each before pair of the trace, and the steps of times
pub record AreClosed (t : TraceValue) (order : OrderValue) : Type 0 where
  pub program : AreProcessesClosed t.processes order
  pub pairs : ArePairsClosed (numbered_pairs t) order
  pub times : AreTimesClosed t.processes order
