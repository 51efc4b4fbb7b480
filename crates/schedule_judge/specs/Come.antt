-- How many operations of each process have come.
use Rattle.std.specs.Prelude.{◌≡◌, ℕ, List, Option, Some, None, Bool, ◌&&◌, nat_lt, nat_le, slice_index_or, if◌then◌else◌, ◌==◌, MatchOption}
use Rattle.trace_semantics.specs.declared.name_table.NameTable.{NameTable}
use Rattle.trace_semantics.specs.declared.operation.OpName.{OpName}
use Rattle.trace_semantics.specs.Judgement.{has_come}
use Rattle.trace_semantics.specs.NameNumbers.{number_of}

-- how many have come of the process in the row of this number: none past the last row
abbrev pub count_in_row : List ℕ → ℕ → ℕ
count_in_row counts number = slice_index_or counts number 0

-- how many have come of a process, if it has a row
abbrev pub count_of_process : List ℕ → Option ℕ → ℕ
count_of_process counts None = 0
count_of_process counts (Some number) = count_in_row counts number

-- the operation at this place is among the first ones, which are this count
abbrev pub is_within : ℕ → ℕ → Bool
is_within place count = nat_lt 0 place && nat_le place count

-- the counts say which operations are among these names
abbrev pub AreCountsOfCome : NameTable → List ℕ → List OpName → Type 0
AreCountsOfCome rows counts names = (n : OpName) → has_come names n ≡ is_within n.place (count_of_process counts (number_of rows n.process))

-- the row, if there is one, has this count, and all others are as they were
abbrev pub IsCountSet : List ℕ → Option ℕ → ℕ → List ℕ → Type 0
IsCountSet old found count new = MatchOption found (new ≡ old) (λ k. (j : ℕ) → count_in_row new j ≡ (if k == j then count else count_in_row old j))
