-- Rows of numbers: of each operation and each process, the last place there that is known to stand before it.
use Rattle.std.specs.Prelude.{◌≡◌, ◌&&◌, ◌||◌, not, nat_le, nat_lt, ◌==◌, IsSome, Some, ℕ, Bool, List, length, map, Option}
use Rattle.std.specs.List.{list_any, filter, filter_map, flat_map}
use Rattle.std.specs.Option.{option_and_then, option_map}
use Rattle.trace_semantics.specs.declared.operation.Op.{Op}
use Rattle.trace_semantics.specs.declared.operation.OpName.{OpName}
use Rattle.trace_semantics.specs.declared.trace.Process.{Process}
use Rattle.trace_semantics.specs.Judgement.{is_held}
use Rattle.trace_semantics.specs.Trace.{TraceValue, at_place, operation_at}
use Rattle.trace_semantics.specs.ValueAfter.{value_left_at}
use Rattle.forced_order.specs.declared.numbered.OperationNumber.{OperationNumber}
use Rattle.trace_part.specs.declared.left_names.LeftName.{LeftName}
use Rattle.trace_part.specs.declared.writers.ChosenWriter.{ChosenWriter}
use Rattle.restriction.specs.Left.{is_left, new_name, names_of}
use Rattle.restriction.specs.Restriction.{left_by}
use Rattle.forced_order.specs.Rows.{OrderValue, stands_by, numbered}
use Rattle.part_law.specs.Part.{writers_of}

-- a writer of the location, by numbers
abbrev pub row_of : TraceValue → (OpName → Bool) → List ℕ → OpName → ChosenWriter
row_of t chosen location n = record { name = numbered t.processes n; value = value_left_at t location n; chosen = chosen n }

-- the operation at a place of a process as a row, if it writes the location
abbrev pub row_in : Process → ℕ → (OpName → Bool) → List ℕ → OpName → Option ChosenWriter
row_in p number chosen location n = option_map (λ d. record { name = record { process = number; place = n.place }; value = Some d; chosen = chosen n }) (option_and_then (left_by location) (at_place p.operations n.place))

abbrev pub rows_in : Process → ℕ → (OpName → Bool) → List ℕ → List ChosenWriter
rows_in p number chosen location = filter_map (row_in p number chosen location) (names_of p)

-- the rows of all writers of the location
abbrev pub rows_of : TraceValue → (OpName → Bool) → List ℕ → List ChosenWriter
rows_of t chosen location = map (row_of t chosen location) (writers_of t location)

-- the same operation
abbrev pub is_same : OperationNumber → OperationNumber → Bool
is_same m n = (m.process == n.process) && (m.place == n.place)

-- what the rows say of a possible source
abbrev pub row_is_source : OrderValue → List ChosenWriter → OperationNumber → ℕ → ChosenWriter → Bool
row_is_source order writers reader d w = is_held w.value d && (not (is_same w.name reader) && (not (stands_by order reader w.name) && not (list_any (λ (x : ChosenWriter). stands_by order w.name x.name && stands_by order x.name reader) writers)))

abbrev pub row_is_last : OrderValue → List ChosenWriter → ℕ → ChosenWriter → Bool
row_is_last order writers d w = is_held w.value d && not (list_any (λ (x : ChosenWriter). stands_by order w.name x.name) writers)

-- what remains of a process: the old places, and what stays there
pub record LeftValue : Type 0 where
  pub places : List ℕ
  pub ops : List Op

abbrev pub left_value : (OpName → Option Op) → List OpName → LeftValue
left_value stays names = record { places = map (λ (n : OpName). n.place) (filter (is_left stays) names); ops = filter_map stays names }

abbrev pub IsLeftOf : (OpName → Option Op) → Process → LeftValue → Type 0
IsLeftOf stays p left = left ≡ left_value stays (names_of p)

abbrev pub AreLeft : TraceValue → (OpName → Option Op) → List LeftValue → Type 0
AreLeft t stays all = all ≡ map (λ (p : Process). left_value stays (names_of p)) t.processes

-- this is what remains of a trace, and of operations of the trace alone something stays
pub record Leaves (t : TraceValue) (stays : OpName → Option Op) (all : List LeftValue) : Type 0 where
  pub values : AreLeft t stays all
  pub known : (n : OpName) → IsSome (stays n) → IsSome (operation_at t n)

-- a name that remains, by numbers, with its new place
abbrev pub left_row : TraceValue → (OpName → Option Op) → OpName → LeftName
left_row t stays n = record { name = numbered t.processes n; new = (new_name stays n).place }

abbrev pub row_is_nearer : OrderValue → LeftName → LeftName → LeftName → Bool
row_is_nearer order m n x = ((x.name.process == m.name.process) && (nat_lt m.name.place x.name.place && stands_by order x.name n.name))
    || ((x.name.process == n.name.process) && (nat_lt x.name.place n.name.place && stands_by order m.name x.name))

abbrev pub row_is_told : OrderValue → List LeftName → LeftName → LeftName → Bool
row_is_told order rows m n = stands_by order m.name n.name && (not (m.name.process == n.name.process) && not (list_any (row_is_nearer order m n) rows))

-- the rows of the pairs of the part
abbrev pub told_rows : OrderValue → List LeftName → List (LeftName × LeftName)
told_rows order rows = filter (λ (pair : LeftName × LeftName). row_is_told order rows pair.0 pair.1) (flat_map (λ (m : LeftName). map (λ (n : LeftName). (m, n)) rows) rows)

-- the row of a place of a process of which these places remain
abbrev pub row_at_place : ℕ → List ℕ → ℕ → LeftName
row_at_place number places place = record { name = record { process = number; place = place }; new = length (filter (λ (k : ℕ). nat_le k place) places) }
