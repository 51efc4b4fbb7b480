-- Why a line makes no clause.
use Rattle.std.specs.Prelude.{◌≡◌, ⊤}
use Rattle.text_lines.specs.declared.plain_fault.PlainFault.{PlainFault}
use Rattle.text_lines.specs.declared.plain_fault.PlainFault.TheVariants.{OutOfMemory, For}
use Rattle.trace_semantics.specs.Trace.{TraceValue}
use Rattle.writer_table.specs.declared.operation_place.OperationPlace.{OperationPlace}
use Rattle.order_clauses.specs.Numbered.{IsKnown}
use Rattle.reason_clauses.specs.declared.cause.ReasonCause.{ReasonCause}
use Rattle.reason_clauses.specs.declared.cause.ReasonCause.TheVariants.{NoOperation}

-- the refusal is for one of these causes, or memory ran out
abbrev pub IsRefusedBy : (ReasonCause → Type 0) → PlainFault ReasonCause → Type 0
IsRefusedBy Is OutOfMemory = ⊤
IsRefusedBy Is (For cause) = Is cause

-- the trace has no operation of these numbers
abbrev pub IsMissingNumber : TraceValue → OperationPlace → ReasonCause → Type 0
IsMissingNumber t n cause = (IsKnown t n → ⊥) × (cause ≡ NoOperation)
