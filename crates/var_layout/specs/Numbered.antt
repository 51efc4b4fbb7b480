-- The operations of a trace in the order of their numbers, each with its name.
use Rattle.std.specs.Prelude.{ℕ, List, map}
use Rattle.std.specs.List.{enumerate_from, flat_map}
use Rattle.trace_semantics.specs.declared.operation.Op.{Op}
use Rattle.trace_semantics.specs.declared.operation.OpName.{OpName}
use Rattle.trace_semantics.specs.declared.trace.Process.{Process}
use Rattle.trace_semantics.specs.Trace.{TraceValue}

pub record NumberedOp : Type 0 where
  pub name : OpName
  pub op : Op

-- the operation at a place of a process
abbrev pub numbered_op : List ℕ → ℕ × Op → NumberedOp
numbered_op process at = record { name = record { process = process; place = at.0 }; op = at.1 }

-- the operations of a process; places count from 1
abbrev pub numbered_in : Process → List NumberedOp
numbered_in p = map (numbered_op p.name) (enumerate_from 1 p.operations)

-- the operations of a trace
abbrev pub numbered : TraceValue → List NumberedOp
numbered t = flat_map numbered_in t.processes
