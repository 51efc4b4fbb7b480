-- Legal schedules: sequential consistency (Lamport, 1979) of a trace (Gibbons and Korach, 1997).
use Rattle.std.specs.Prelude.{◌≡◌, ⊤, ℕ, List, ◌∷◌, ◌++◌, Some, None}
use Rattle.trace_semantics.specs.declared.operation.Op.{Op}
use Rattle.trace_semantics.specs.declared.operation.OpName.{OpName}
use Rattle.trace_semantics.specs.declared.operation.Origin.{Origin}
use Rattle.trace_semantics.specs.declared.operation.Origin.TheVariants.{Any, Initial, Operation}
use Rattle.trace_semantics.specs.Interleaving.{IsInterleaving}
use Rattle.trace_semantics.specs.Operation.{location_of, value_read, origin_of}
use Rattle.trace_semantics.specs.Trace.{TraceValue, operation_at, value_of}
use Rattle.trace_semantics.specs.ValueAfter.{value_after, last_writer}

-- the last write to the location among these operations is the one that the origin names
abbrev pub ComesFrom : TraceValue → List OpName → List ℕ → Origin → Type 0
ComesFrom t names location Any = ⊤
ComesFrom t names location Initial = last_writer t location names ≡ None
ComesFrom t names location (Operation n) = last_writer t location names ≡ Some n

-- an operation after these reads what its location holds there, from where its origin says
pub record ReadsRight (t : TraceValue) (names : List OpName) (op : Op) : Type 0 where
  pub value : (d : ℕ) → value_read op ≡ Some d → value_after t (location_of op) names ≡ Some d
  pub source : ComesFrom t names (location_of op) (origin_of op)

-- an interleaving in which each operation reads right after those before it, and each final value is held in the end
pub record IsLegal (t : TraceValue) (names : List OpName) : Type 0 where
  pub interleaving : IsInterleaving t names
  pub reads : (earlier : List OpName) (n : OpName) (later : List OpName) (op : Op) → names ≡ earlier ++ n ∷ later → operation_at t n ≡ Some op → ReadsRight t earlier op
  pub finals : (location : List ℕ) (d : ℕ) → value_of t.final_values location ≡ Some d → value_after t location names ≡ Some d

-- no list of names is a legal schedule of the trace
abbrev pub HasNoSchedule : TraceValue → Type 0
HasNoSchedule t = (names : List OpName) → IsLegal t names → ⊥
