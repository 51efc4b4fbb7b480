-- The before pairs of a part, by numbers. The names that remain are grouped by process.
use Rattle.std.specs.Prelude.{◌&&◌, not, false, ◌==◌, List, [], ◌∷◌, ◌++◌, map, Option, Some, None, Bool, if◌then◌else◌}
use Rattle.std.specs.List.{Contains, filter, find, flat_map}
use Rattle.std.specs.List.Sorted.{IsPartitionedBy}
use Rattle.trace_semantics.specs.declared.operation.Op.{Op}
use Rattle.trace_semantics.specs.declared.operation.OpName.{OpName}
use Rattle.trace_semantics.specs.declared.trace.Process.{Process}
use Rattle.trace_semantics.specs.KnownOrder.{ends_before}
use Rattle.trace_semantics.specs.Trace.{TraceValue}
use Rattle.forced_order.specs.Rows.{OrderValue, stands_by}
use Rattle.forced_order.specs.Times.{span_by_number}
use Rattle.restriction.specs.Left.{is_left, names_of}
use Rattle.trace_part.specs.declared.left_names.LeftName.{LeftName}
use Rattle.trace_part.specs.Rows.{left_row}

-- the names that remain of each process
abbrev pub groups_of : TraceValue → (OpName → Option Op) → List (List LeftName)
groups_of t stays = map (λ (p : Process). map (left_row t stays) (filter (is_left stays) (names_of p))) t.processes

-- the name, if there is one, stands before n
abbrev pub is_before : OrderValue → Option LeftName → LeftName → Bool
is_before order None n = false
is_before order (Some next) n = stands_by order next.name n.name

-- n is of another process than m, and the name after m in its process does not stand before n
abbrev pub is_told_first : OrderValue → LeftName → Option LeftName → LeftName → Bool
is_told_first order m next n = not (m.name.process == n.name.process) && not (is_before order next n)

abbrev pub told_by : OrderValue → LeftName → Option LeftName → Option LeftName → List (LeftName × LeftName)
told_by order m next None = []
told_by order m next (Some n) = if is_told_first order m next n then (m, n) ∷ [] else []

-- the pair of m and a name of the group: the first that m stands before
abbrev pub told_in : OrderValue → LeftName → Option LeftName → List LeftName → List (LeftName × LeftName)
told_in order m next group = told_by order m next (find (λ (n : LeftName). stands_by order m.name n.name) group)

-- the pairs of m
abbrev pub told_of : OrderValue → LeftName → Option LeftName → List (List LeftName) → List (LeftName × LeftName)
told_of order m next groups = flat_map (told_in order m next) groups

abbrev pub first_of : List LeftName → Option LeftName
first_of [] = None
first_of (n ∷ names) = Some n

-- the pairs of the names of a group
abbrev pub told_from : OrderValue → List (List LeftName) → List LeftName → List (LeftName × LeftName)
told_from order groups [] = []
told_from order groups (m ∷ names) = told_of order m (first_of names) groups ++ told_from order groups names

-- it does not follow from times that the first stands before the second
abbrev pub is_untimed : List Process → LeftName × LeftName → Bool
is_untimed processes pair = not (ends_before (span_by_number processes pair.0.name) (span_by_number processes pair.1.name))

-- of the names of the group, those that m stands before come after the others
abbrev pub IsForwardFrom : OrderValue → LeftName → List LeftName → Type 0
IsForwardFrom order m group = IsPartitionedBy (λ (n : LeftName). not (stands_by order m.name n.name)) group

-- this holds of each of the groups
abbrev pub AreForwardFrom : OrderValue → LeftName → List (List LeftName) → Type 0
AreForwardFrom order m groups = (group : List LeftName) → Contains groups group → IsForwardFrom order m group

-- this holds of each name of one group
abbrev pub IsGroupForward : OrderValue → List (List LeftName) → List LeftName → Type 0
IsGroupForward order groups names = (m : LeftName) → Contains names m → AreForwardFrom order m groups

-- this holds of each name of the groups
abbrev pub AreForward : OrderValue → List (List LeftName) → Type 0
AreForward order groups = (names : List LeftName) → Contains groups names → IsGroupForward order groups names

-- all pairs
abbrev pub told_pairs : OrderValue → List (List LeftName) → List (LeftName × LeftName)
told_pairs order groups = flat_map (told_from order groups) groups
