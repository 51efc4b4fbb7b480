-- Operations that are kept by classes.
use Rattle.std.specs.Prelude.{◌≡◌, ◌≢◌, ◌⊎◌, ◌<◌, ◌+◌, ℕ, List, [], Option, Some, slice_index_or}
use Rattle.std.specs.List.{slice_get}
use Rattle.writer_table.specs.declared.runs.Run.{Run}
use Rattle.writer_table.specs.Runs.{AreUpTo, IsIn, HasOneMore}

-- the operations of a class
abbrev pub row : List (List Run) → ℕ → List Run
row table class = slice_index_or table class []

-- the class has one operation more, and the others are as they were
pub record HasOneMoreIn (old new : List (List Run)) (class process place : ℕ) : Type 0 where
  pub one : HasOneMore (row old class) (row new class) process place
  pub others : (c : ℕ) → c ≢ class → row new c ≡ row old c

-- of a process, each of whose operations has a class or none, the new table has the first n operations that have one, under this, and otherwise what the old one has
pub record HasFirst (old new : List (List Run)) (process : ℕ) (classes : List (Option ℕ)) (n : ℕ) : Type 0 where
  pub here : (class k : ℕ) → k < n → slice_get classes k ≡ Some (Some class) → IsIn (row new class) process (k + 1)
  pub kept : (class q k : ℕ) → IsIn (row old class) q k → IsIn (row new class) q k
  pub only : (class q k : ℕ) → IsIn (row new class) q k → IsIn (row old class) q k ⊎ ((q ≡ process) × ((j : ℕ) × (k ≡ j + 1) × (j < n) × (slice_get classes j ≡ Some (Some class))))
  pub ordered : (class : ℕ) → AreUpTo (row old class) process 0 → AreUpTo (row new class) process n
