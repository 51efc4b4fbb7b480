-- Operations that are kept by process.
use Rattle.std.specs.Prelude.{◌≡◌, ◌<◌, ◌≤◌, ◌⊎◌, ℕ, List}
use Rattle.std.specs.List.{All, AllPairs, Contains}
use Rattle.writer_table.specs.declared.runs.Run.{Run}

-- a run for each process, in the order of these, and its places rise
pub record AreOrdered (runs : List Run) : Type 0 where
  pub apart : AllPairs (λ (a b : Run). a.process < b.process) runs
  pub rising : All (λ (run : Run). AllPairs (λ j k. j < k) run.places) runs

-- the operation at this place of this process is among them
abbrev pub IsIn : List Run → ℕ → ℕ → Type 0
IsIn runs process place = (run : Run) × Contains runs run × (run.process ≡ process) × Contains run.places place

-- the runs are in order, none of them is of a process above this one, and of this one they have no place above this one
pub record AreUpTo (runs : List Run) (process place : ℕ) : Type 0 where
  pub ordered : AreOrdered runs
  pub below : All (λ (run : Run). (run.process < process) ⊎ ((run.process ≡ process) × All (λ k. k ≤ place) run.places)) runs

-- The new ones are the old ones and the operation at this place of this process. They stay in order if it comes after all old ones.
pub record HasOneMore (old new : List Run) (process place : ℕ) : Type 0 where
  pub here : IsIn new process place
  pub kept : (q k : ℕ) → IsIn old q k → IsIn new q k
  pub only : (q k : ℕ) → IsIn new q k → IsIn old q k ⊎ ((q ≡ process) × (k ≡ place))
  pub ordered : (k : ℕ) → k < place → AreUpTo old process k → AreUpTo new process place
