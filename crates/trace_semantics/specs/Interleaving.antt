-- Interleavings (Lamport, 1979).
use Rattle.std.specs.Prelude.{◌≡◌, ◌<◌, List, ◌∷◌, ◌++◌, IsSome}
use Rattle.std.specs.List.{Contains}
use Rattle.trace_semantics.specs.declared.operation.OpName.{OpName}
use Rattle.trace_semantics.specs.KnownOrder.{IsKnownBefore}
use Rattle.trace_semantics.specs.Trace.{TraceValue, operation_at}

-- m stands in the list, and n after it
abbrev pub StandsBefore : List OpName → OpName → OpName → Type 0
StandsBefore names m n = (front : List OpName) × (middle : List OpName) × (back : List OpName) × (names ≡ front ++ m ∷ (middle ++ n ∷ back))

-- the name of each operation once and no other name, in program order, and in the order that the trace says
pub record IsInterleaving (t : TraceValue) (names : List OpName) : Type 0 where
  pub each : (n : OpName) → IsSome (operation_at t n) → Contains names n
  pub only : (n : OpName) → Contains names n → IsSome (operation_at t n)
  pub once : (n : OpName) → StandsBefore names n n → ⊥
  pub program_order : (m n : OpName) → StandsBefore names m n → m.process ≡ n.process → m.place < n.place
  pub known_order : (m n : OpName) → IsKnownBefore t m n → StandsBefore names m n
