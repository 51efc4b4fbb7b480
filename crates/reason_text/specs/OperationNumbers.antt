-- What the table of a trace's operations holds.
use Rattle.std.specs.Prelude.{◌≡◌, ◌<◌, ℕ, length, Some, slice_index_or}
use Rattle.text_lines.specs.declared.plain_fault.PlainFault.{PlainFault}
use Rattle.trace_semantics.specs.declared.name_table.NameTable.{NameTable}
use Rattle.trace_semantics.specs.declared.trace.Process.{Process}
use Rattle.trace_semantics.specs.NameNumbers.{number_of}
use Rattle.trace_semantics.specs.ScheduleLimits.{limits_for}
use Rattle.trace_semantics.specs.Trace.{TraceValue}
use Rattle.reason_clauses.specs.declared.cause.ReasonCause.{ReasonCause}
use Rattle.reason_text.specs.declared.operation_table.OperationTable.{OperationTable}
use Rattle.reason_clauses.specs.RefusedBy.{IsRefusedBy}

-- of the first n processes each has its number under its name
abbrev pub AreNumbered : TraceValue → NameTable → ℕ → Type 0
AreNumbered t numbers n = (q : ℕ) (p : Process) → q < n → slice_index_or t.processes q p ≡ p → number_of numbers p.name ≡ Some q

-- each process of the table's trace has its number, and names are read with the limits of the trace
pub record HoldsTrace (table : OperationTable) : Type 0 where
  pub numbered : AreNumbered table.trace.now table.numbers (length table.trace.now.processes)
  pub within : table.limits ≡ limits_for table.trace.now

-- by a table that holds its trace, the refusal is for one of these causes
abbrev pub IsTrueRefusal : OperationTable → (TraceValue → ReasonCause → Type 0) → PlainFault ReasonCause → Type 0
IsTrueRefusal table Is refusal = HoldsTrace table → IsRefusedBy (Is table.trace.now) refusal
