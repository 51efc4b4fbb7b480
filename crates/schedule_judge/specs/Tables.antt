-- The judge's tables, as functions, and what they hold.
use Rattle.std.specs.Prelude.{◌≡◌, ℕ, List, Option, Some, None, is_some, Bool, false, not, nat_lt, ◌&&◌, ◌==◌}
use Rattle.std.specs.List.{slice_get, find, position_from, list_any}
use Rattle.std.specs.Option.{option_and_then}
use Rattle.std.specs.HashMap.{get_by}
use Rattle.std.specs.Str.{bytes_eq}
use Rattle.trace_semantics.specs.declared.name_table.NameTable.{NameTable}
use Rattle.schedule_judge.specs.declared.op_numbers.OpNumbers.{OpNumbers}
use Rattle.trace_semantics.specs.declared.operation.OpName.{OpName}
use Rattle.trace_semantics.specs.declared.trace.Process.{Process}
use Rattle.trace_semantics.specs.NameNumbers.{number_of}
use Rattle.trace_semantics.specs.Operation.{same_op}

-- the number of an operation
abbrev pub number_at : OpNumbers → OpName → Option ℕ
number_at table n = get_by (λ k. bytes_eq n.process k.0.now && (n.place == k.1)) table.numbers

-- the table has the place of each process
abbrev pub FindsProcesses : List Process → NameTable → Type 0
FindsProcesses processes places = (name : List ℕ) → option_and_then (slice_get processes) (number_of places name) ≡ find (λ p. bytes_eq p.name name) processes

-- the table has the place at which each operation comes first
abbrev pub FindsFirst : List OpName → OpNumbers → Type 0
FindsFirst names places = (n : OpName) → number_at places n ≡ position_from (same_op n) 0 names

-- what comes first at this place is among the first `count`
abbrev pub is_below : Option ℕ → ℕ → Bool
is_below None count = false
is_below (Some k) count = nat_lt k count

-- what comes first at the second place comes there without the first before it
abbrev pub is_broken : Option ℕ → Option ℕ → Bool
is_broken first None = false
is_broken first (Some k) = not (is_below first k)

-- the table has the operations that come before one that a pair puts before them
abbrev pub FindsEarly : List (OpName × OpName) → OpNumbers → OpNumbers → Type 0
FindsEarly before places early = (n : OpName) → is_some (number_at early n) ≡ list_any (λ (pair : OpName × OpName). same_op pair.1 n && is_broken (number_at places pair.0) (number_at places pair.1)) before

-- where an operation comes first among these names
abbrev pub first_in : List OpName → OpName → Option ℕ
first_in names n = position_from (same_op n) 0 names

-- the same where the operations come first as in these names
abbrev pub FindsEarlyIn : List (OpName × OpName) → List OpName → OpNumbers → Type 0
FindsEarlyIn before names early = (n : OpName) → is_some (number_at early n) ≡ list_any (λ (pair : OpName × OpName). same_op pair.1 n && is_broken (first_in names pair.0) (first_in names pair.1)) before
