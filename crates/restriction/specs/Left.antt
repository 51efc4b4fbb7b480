-- What remains of processes and schedules if a function says what stays of each operation, and the new names of what remains.
use Rattle.std.specs.Prelude.{ℕ, List, length, map, Option, Bool, is_some}
use Rattle.std.specs.List.{filter, filter_map, range_with_len}
use Rattle.trace_semantics.specs.declared.operation.Op.{Op}
use Rattle.trace_semantics.specs.declared.operation.Op.TheVariants.{Read, Write, Update}
use Rattle.trace_semantics.specs.declared.operation.OpName.{OpName}
use Rattle.trace_semantics.specs.declared.operation.Origin.{Origin}
use Rattle.trace_semantics.specs.declared.operation.Origin.TheVariants.{Any, Initial, Operation}
use Rattle.trace_semantics.specs.declared.trace.Process.{Process}
use Rattle.trace_semantics.specs.Trace.{first_names}

-- something stays of the operation
abbrev pub is_left : (OpName → Option Op) → OpName → Bool
is_left stays n = is_some (stays n)

-- the new name: its place is how many operations remain of its process up to it
abbrev pub new_name : (OpName → Option Op) → OpName → OpName
new_name stays n = record { process = n.process; place = length (filter (is_left stays) (first_names n.process n.place)) }

abbrev pub new_origin : (OpName → Option Op) → Origin → Origin
new_origin stays Any = Any
new_origin stays Initial = Initial
new_origin stays (Operation n) = Operation (new_name stays n)

-- the operation with the new name of its origin
abbrev pub new_op : (OpName → Option Op) → Op → Op
new_op stays (Read location value origin span) = Read location value (new_origin stays origin) span
new_op stays (Write location value span) = Write location value span
new_op stays (Update location read left origin span) = Update location read left (new_origin stays origin) span

abbrev pub new_pair : (OpName → Option Op) → OpName × OpName → OpName × OpName
new_pair stays pair = (new_name stays pair.0, new_name stays pair.1)

-- the names of the operations of a process, in program order
abbrev pub names_of : Process → List OpName
names_of p = first_names p.name (length p.operations)

-- names of a process, from one place on
abbrev pub names_from : List ℕ → ℕ → ℕ → List OpName
names_from process low n = map (λ k. record { process = process; place = k }) (range_with_len low n)

-- the process with what remains of it
abbrev pub left_process : (OpName → Option Op) → Process → Process
left_process stays p = record { name = p.name; operations = map (new_op stays) (filter_map stays (names_of p)) }

-- a schedule, restricted to what remains, under the new names
abbrev pub restricted : (OpName → Option Op) → List OpName → List OpName
restricted stays names = map (new_name stays) (filter (is_left stays) names)
