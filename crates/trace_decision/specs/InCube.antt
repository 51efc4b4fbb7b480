-- When a schedule is in a cube: what each literal of the cube says is so of the schedule.
use Rattle.std.specs.Prelude.{◌≡◌, ◌⊎◌, ◌<◌, ℕ, suc, ℤ, pos, negsuc, List, Some}
use Rattle.std.specs.List.{Contains, slice_get}
use Rattle.reducer.specs.Reduction.{kept_op, kept_trace}
use Rattle.restriction.specs.Left.{restricted}
use Rattle.trace_semantics.specs.declared.operation.OpName.{OpName}
use Rattle.trace_semantics.specs.Interleaving.{StandsBefore}
use Rattle.trace_semantics.specs.Legal.{IsLegal}
use Rattle.trace_semantics.specs.Trace.{TraceValue, operation_count}
use Rattle.var_layout.specs.declared.candidate.Candidate.{Candidate}
use Rattle.var_layout.specs.declared.candidate.Candidate.TheVariants.{InitialValue, Writer}
use Rattle.var_layout.specs.declared.candidate.FinalChoice.{FinalChoice}
use Rattle.var_layout.specs.declared.candidate.ReadsFromChoice.{ReadsFromChoice}
use Rattle.var_layout.specs.ChoiceVariables.{choices}
use Rattle.var_layout.specs.FinalVariables.{final_choices}
use Rattle.var_layout.specs.Numbers.{name_at, readers, writers, others, other_writers}
use Rattle.var_layout.specs.OrderVariables.{order_var}

-- of two operations, by their numbers in the layout, the first stands before the second in the schedule
pub record Before (t : TraceValue) (names : List OpName) (i j : ℕ) : Type 0 where
  pub first : OpName
  pub second : OpName
  pub first_is : name_at t i ≡ Some first
  pub second_is : name_at t j ≡ Some second
  pub stands : StandsBefore names first second

-- in the schedule the operation r has its value from there: from the initial value, where it stands before all other writers of its
-- location; from w, where w stands before it and no other writer between the two
abbrev pub ReadsFrom : TraceValue → List OpName → ℕ → Candidate → Type 0
ReadsFrom t names r InitialValue = (u : ℕ) → Contains (other_writers t r) u → Before t names r u
ReadsFrom t names r (Writer w) = Before t names w r × ((u : ℕ) → Contains (others w (other_writers t r)) u → Before t names u w ⊎ Before t names r u)

-- in the schedule all other writers of the location stand before w
abbrev pub IsLastWriter : TraceValue → List OpName → List ℕ → ℕ → Type 0
IsLastWriter t names location w = (u : ℕ) → Contains (others w (writers t location)) u → Before t names u w

-- what the variable says is so of the schedule: the order of two operations, from where a reading operation has its value, or which
-- writer is the last one of a location that has a final value
pub data IsTrueOf (t : TraceValue) (names : List OpName) (v : ℕ) : Type 0 where
  Order : (i j : ℕ) → i < j → order_var (operation_count t) i j ≡ v → Before t names i j → IsTrueOf t names v
  Reads : (r : ℕ) (c : ReadsFromChoice) → Contains (readers t) r → Contains (choices t r) c → c.variable ≡ v → ReadsFrom t names r c.candidate → IsTrueOf t names v
  Final : (k : ℕ) (entry : List ℕ × ℕ) (c : FinalChoice) → slice_get t.final_values k ≡ Some entry → Contains (final_choices t k entry) c → c.variable ≡ v → IsLastWriter t names entry.0 c.writer → IsTrueOf t names v

-- what the literal says: that of its variable, or that this is not so
abbrev pub IsLiteralOf : TraceValue → List OpName → ℤ → Type 0
IsLiteralOf t names (pos v) = IsTrueOf t names v
IsLiteralOf t names (negsuc k) = IsTrueOf t names (suc k) → ⊥

-- the schedule is in the cube: what each of its literals says is so
abbrev pub IsInCube : TraceValue → List OpName → List ℤ → Type 0
IsInCube t names cube = (literal : ℤ) → Contains cube literal → IsLiteralOf t names literal

-- each legal schedule of the trace, restricted to the operations that are kept, is in one of the cubes
abbrev pub HoldSchedules : TraceValue → List (List ℤ) → Type 0
HoldSchedules t cubes = (names : List OpName) → IsLegal t names → (cube : List ℤ) × Contains cubes cube × IsInCube (kept_trace t) (restricted (kept_op t) names) cube
