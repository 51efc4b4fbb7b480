-- The part of a trace that some chosen operations make up.
--
-- In each definition `ordered` says which operations are known to stand before which, and `chosen` which are chosen. An order that a
-- legal schedule obeys puts no operation before itself, so the definitions need not say that a writer between two operations is neither of them.
use Rattle.std.specs.Prelude.{ℕ, List, length, map, take, Option, Some, None, Bool, true, is_some, not, nat_lt, ◌==◌, ◌&&◌, ◌||◌, if◌then◌else◌}
use Rattle.std.specs.List.{filter, flat_map, list_all, list_any}
use Rattle.std.specs.Option.{option_and_then}
use Rattle.std.specs.Str.{bytes_eq}
use Rattle.trace_semantics.specs.declared.operation.Op.{Op}
use Rattle.trace_semantics.specs.declared.operation.Op.TheVariants.{Read, Write, Update}
use Rattle.trace_semantics.specs.declared.operation.OpName.{OpName}
use Rattle.trace_semantics.specs.declared.operation.Origin.{Origin}
use Rattle.trace_semantics.specs.declared.operation.Origin.TheVariants.{Any, Initial, Operation}
use Rattle.trace_semantics.specs.Judgement.{is_held}
use Rattle.trace_semantics.specs.KnownOrder.{ended_before}
use Rattle.trace_semantics.specs.Operation.{written_value, same_op}
use Rattle.trace_semantics.specs.Trace.{TraceValue, operation_at, operation_names}
use Rattle.trace_semantics.specs.ValueAfter.{value_left_at}
use Rattle.restriction.specs.Left.{is_left, new_pair, left_process}

-- the operation writes the location
abbrev pub writes_at : TraceValue → List ℕ → OpName → Bool
writes_at t location n = is_some (value_left_at t location n)

-- the operations that write the location
abbrev pub writers_of : TraceValue → List ℕ → List OpName
writers_of t location = filter (writes_at t location) (operation_names t)

-- a writer of the location stands after w and before n
abbrev pub is_overwritten : TraceValue → (OpName → OpName → Bool) → List ℕ → OpName → OpName → Bool
is_overwritten t ordered location w n = list_any (λ x. ordered w x && ordered x n) (writers_of t location)

-- n may read d from w: w leaves d at the location, is another operation than n, does not stand after it, and is not overwritten before it
abbrev pub may_be_source : TraceValue → (OpName → OpName → Bool) → OpName → List ℕ → ℕ → OpName → Bool
may_be_source t ordered n location d w = is_held (value_left_at t location w) d && (not (same_op w n) && (not (ordered n w) && not (is_overwritten t ordered location w n)))

-- the possible sources of n, which reads d at the location
abbrev pub sources : TraceValue → (OpName → OpName → Bool) → OpName → List ℕ → ℕ → List OpName
sources t ordered n location d = filter (may_be_source t ordered n location d) (writers_of t location)

-- w may leave the final value d: it leaves d at the location, and no writer of it stands after w
abbrev pub may_be_last : TraceValue → (OpName → OpName → Bool) → List ℕ → ℕ → OpName → Bool
may_be_last t ordered location d w = is_held (value_left_at t location w) d && not (list_any (ordered w) (writers_of t location))

-- the possible last writers of a location whose final value is d
abbrev pub last_writers : TraceValue → (OpName → OpName → Bool) → List ℕ → ℕ → List OpName
last_writers t ordered location d = filter (may_be_last t ordered location d) (writers_of t location)

-- the part says what n reads: all possible sources are chosen; or, if the trace says from where the value is, this is the initial value
-- or a chosen operation that writes
abbrev pub keeps_read : TraceValue → (OpName → OpName → Bool) → (OpName → Bool) → OpName → List ℕ → ℕ → Origin → Bool
keeps_read t ordered chosen n location d Any = list_all chosen (sources t ordered n location d)
keeps_read t ordered chosen n location d Initial = true
keeps_read t ordered chosen n location d (Operation w) = chosen w && is_some (option_and_then written_value (operation_at t w))

-- what stays of a chosen operation, with its times: if the part does not say what it reads, a read is left out, and an update becomes a write
abbrev pub stays_of : TraceValue → (OpName → OpName → Bool) → (OpName → Bool) → OpName → Op → Option Op
stays_of t ordered chosen n (Read location value origin span) = if keeps_read t ordered chosen n location value origin then Some (Read location value origin span) else None
stays_of t ordered chosen n (Write location value span) = Some (Write location value span)
stays_of t ordered chosen n (Update location read left origin span) = Some (if keeps_read t ordered chosen n location read origin then Update location read left origin span else Write location left span)

-- what stays of an operation: of those that are not chosen, nothing
abbrev pub stays : TraceValue → (OpName → OpName → Bool) → (OpName → Bool) → OpName → Option Op
stays t ordered chosen n = if chosen n then option_and_then (stays_of t ordered chosen n) (operation_at t n) else None

-- a final value stays if all possible last writers are chosen, and some writer of the location, if it has one
abbrev pub stays_final : TraceValue → (OpName → OpName → Bool) → (OpName → Bool) → List ℕ × ℕ → Bool
stays_final t ordered chosen entry = list_all chosen (last_writers t ordered entry.0 entry.1) && (list_any chosen (writers_of t entry.0) || (length (writers_of t entry.0) == 0))

-- the names of the operations that remain
abbrev pub left_names : TraceValue → (OpName → Option Op) → List OpName
left_names t left = filter (is_left left) (operation_names t)

-- all pairs of them
abbrev pub left_pairs : TraceValue → (OpName → Option Op) → List (OpName × OpName)
left_pairs t left = flat_map (λ m. map (λ (n : OpName). (m, n)) (left_names t left)) (left_names t left)

-- x with one of the two makes a pair that says more: x is later in the process of the first and stands before the second, or earlier in
-- the process of the second and stands after the first
abbrev pub is_nearer : (OpName → OpName → Bool) → OpName × OpName → OpName → Bool
is_nearer ordered pair x = (bytes_eq x.process pair.0.process && (nat_lt pair.0.place x.place && ordered x pair.1))
    || (bytes_eq x.process pair.1.process && (nat_lt x.place pair.1.place && ordered pair.0 x))

-- the first stands before the second, they are of two processes, and no pair of operations that remain says more
abbrev pub is_nearest : TraceValue → (OpName → OpName → Bool) → (OpName → Option Op) → OpName × OpName → Bool
is_nearest t ordered left pair = ordered pair.0 pair.1 && (not (bytes_eq pair.0.process pair.1.process) && not (list_any (is_nearer ordered pair) (left_names t left)))

-- a pair of the part: one of the nearest, if it does not follow from the times that remain
abbrev pub is_told : TraceValue → (OpName → OpName → Bool) → (OpName → Option Op) → OpName × OpName → Bool
is_told t ordered left pair = is_nearest t ordered left pair && not (ended_before t pair.0 pair.1)

-- the part: what remains of each process, all initial values, the final values that stay, and the first 4,096 of its pairs, as many as
-- a text of version 2 may have, all under the new names
abbrev pub part : TraceValue → (OpName → OpName → Bool) → (OpName → Bool) → TraceValue
part t ordered chosen = record {
  processes = map (left_process (stays t ordered chosen)) t.processes;
  initial = t.initial;
  final_values = filter (stays_final t ordered chosen) t.final_values;
  before = map (new_pair (stays t ordered chosen)) (take 4096 (filter (is_told t ordered (stays t ordered chosen)) (left_pairs t (stays t ordered chosen))));
}
