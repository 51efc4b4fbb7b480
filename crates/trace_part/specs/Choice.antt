-- What is wrong with the names of a choice of operations.
use Rattle.std.specs.Prelude.{List, Option, Some, None, is_some, not, if◌then◌else◌}
use Rattle.text_lines.specs.FirstFault.{IsFaultless}
use Rattle.trace_semantics.specs.declared.operation.OpName.{OpName}
use Rattle.trace_semantics.specs.Judgement.{has_come}
use Rattle.trace_semantics.specs.Trace.{TraceValue, operation_at}
use Rattle.trace_part.specs.declared.part_fault.PartCause.{PartCause}
use Rattle.trace_part.specs.declared.part_fault.PartCause.TheVariants.{UnknownOp, RepeatedOp}

-- what is wrong with a name after the names before it
abbrev pub fault_of_choice : TraceValue → List OpName → OpName → Option PartCause
fault_of_choice t before n = if not (is_some (operation_at t n)) then Some UnknownOp else if has_come before n then Some RepeatedOp else None

-- each name is that of an operation of the trace, and none stands twice
abbrev pub IsChoice : TraceValue → List OpName → Type 0
IsChoice t names = IsFaultless (fault_of_choice t) names
