-- The first fault of a list of names, and what is said of it.
use Rattle.std.specs.Prelude.{◌≡◌, ◌⊎◌, ◌+◌, ◌-◌, ℕ, List, ◌++◌, length, map, Option, Some, None, is_none, Bool, true, false, not, ◌==◌, if◌then◌else◌}
use Rattle.std.specs.List.{list_any, list_all, filter}
use Rattle.text_lines.specs.FirstFault.{IsFaultless, IsFirstFault}
use Rattle.trace_semantics.specs.declared.judgement.IllegalCause.{IllegalCause}
use Rattle.trace_semantics.specs.declared.judgement.IllegalCause.TheVariants.{UnknownOp, RepeatedOp, OutOfProgramOrder, WrongRead, MissingOp, WrongFinal, BeforeBroken, WrongSource}
use Rattle.trace_semantics.specs.declared.judgement.Judgement.{Judgement}
use Rattle.trace_semantics.specs.declared.judgement.Judgement.TheVariants.{Legal, Illegal}
use Rattle.trace_semantics.specs.declared.operation.Op.{Op}
use Rattle.trace_semantics.specs.declared.operation.OpName.{OpName}
use Rattle.trace_semantics.specs.declared.operation.Origin.{Origin}
use Rattle.trace_semantics.specs.declared.operation.Origin.TheVariants.{Any, Initial, Operation}
use Rattle.trace_semantics.specs.KnownOrder.{ended_before}
use Rattle.trace_semantics.specs.Operation.{location_of, value_read, origin_of, same_op}
use Rattle.trace_semantics.specs.Trace.{TraceValue, operation_at, operation_names, first_names}
use Rattle.trace_semantics.specs.ValueAfter.{value_after, last_writer}

-- the name is among these
abbrev pub has_come : List OpName → OpName → Bool
has_come names n = list_any (same_op n) names

-- the operations that a before pair puts before this one
abbrev pub paired_before : TraceValue → OpName → List OpName
paired_before t n = map (λ (pair : OpName × OpName). pair.0) (filter (λ (pair : OpName × OpName). same_op pair.1 n) t.before)

-- the operations that had ended before this one began
abbrev pub timed_before : TraceValue → OpName → List OpName
timed_before t n = filter (λ m. ended_before t m n) (operation_names t)

-- the operations that the trace puts before this one
abbrev pub put_before : TraceValue → OpName → List OpName
put_before t n = paired_before t n ++ timed_before t n

-- this value is held
abbrev pub is_held : Option ℕ → ℕ → Bool
is_held None d = false
is_held (Some e) d = e == d

abbrev pub is_the_op : Option OpName → OpName → Bool
is_the_op None n = false
is_the_op (Some m) n = same_op m n

-- the location holds what the operation reads, if it reads
abbrev pub is_right_read : Option ℕ → Option ℕ → Bool
is_right_read held None = true
is_right_read held (Some d) = is_held held d

-- the last writer is the one of the origin
abbrev pub is_right_source : Option OpName → Origin → Bool
is_right_source writer Any = true
is_right_source writer Initial = is_none writer
is_right_source writer (Operation n) = is_the_op writer n

-- what is wrong with a known operation after these names
abbrev pub fault_of_op : TraceValue → List OpName → OpName → Op → Option IllegalCause
fault_of_op t before n op =
    if has_come before n then Some RepeatedOp
    else if not (list_all (has_come before) (first_names n.process (n.place - 1))) then Some OutOfProgramOrder
    else if not (is_right_read (value_after t (location_of op) before) (value_read op)) then Some WrongRead
    else if not (list_all (has_come before) (put_before t n)) then Some BeforeBroken
    else if not (is_right_source (last_writer t (location_of op) before) (origin_of op)) then Some WrongSource
    else None

abbrev pub fault_of_named : TraceValue → List OpName → OpName → Option Op → Option IllegalCause
fault_of_named t before n None = Some UnknownOp
fault_of_named t before n (Some op) = fault_of_op t before n op

-- what is wrong with a name after the names before it
abbrev pub fault_at : TraceValue → List OpName → OpName → Option IllegalCause
fault_at t before n = fault_of_named t before n (operation_at t n)

-- what is wrong with the whole list, where no name has a fault
abbrev pub fault_of_whole : TraceValue → List OpName → Option IllegalCause
fault_of_whole t names =
    if not (list_all (has_come names) (operation_names t)) then Some MissingOp
    else if not (list_all (λ (entry : List ℕ × ℕ). is_held (value_after t entry.0 names) entry.1) t.final_values) then Some WrongFinal
    else None

-- what is said of a list of names: it is legal where nothing is wrong, and else its first fault is reported
abbrev pub IsJudgement : TraceValue → List OpName → Judgement → Type 0
IsJudgement t names Legal = IsFaultless (fault_at t) names × (fault_of_whole t names ≡ None)
IsJudgement t names (Illegal cause place) = IsFirstFault (fault_at t) names place cause
    ⊎ (IsFaultless (fault_at t) names × (fault_of_whole t names ≡ Some cause) × (place ≡ length names + 1))
