-- Orders that every legal schedule of a trace keeps.
use Rattle.std.specs.Prelude.{◌≡◌, ◌⊎◌, ◌<◌, true, Bool, List, [], ◌∷◌, IsSome}
use Rattle.trace_semantics.specs.declared.operation.OpName.{OpName}
use Rattle.trace_semantics.specs.Interleaving.{StandsBefore}
use Rattle.trace_semantics.specs.KnownOrder.{IsKnownBefore}
use Rattle.trace_semantics.specs.Legal.{IsLegal}
use Rattle.trace_semantics.specs.Trace.{TraceValue, operation_at}

-- both are operations of one process, and the first has the lower place
pub record IsInProgramOrder (t : TraceValue) (m n : OpName) : Type 0 where
  pub first : IsSome (operation_at t m)
  pub second : IsSome (operation_at t n)
  pub process : m.process ≡ n.process
  pub lower : m.place < n.place

-- program order, or an order that the trace says, by a before pair or by times
abbrev pub IsStep : TraceValue → OpName → OpName → Type 0
IsStep t m n = IsInProgramOrder t m n ⊎ IsKnownBefore t m n

-- steps lead from m to n, over the operations between
abbrev pub IsPath : TraceValue → OpName → List OpName → OpName → Type 0
IsPath t m [] n = IsStep t m n
IsPath t m (x ∷ between) n = IsStep t m x × IsPath t x between n

-- the forced order: the least transitive relation that contains program order, the before pairs and what times say; if these lead in a
-- circle, it puts each operation of the circle before itself
abbrev pub IsForced : TraceValue → OpName → OpName → Type 0
IsForced t m n = (between : List OpName) × IsPath t m between n

-- the names obey the order: of two operations of the trace that it orders, the first stands before the second
abbrev pub Obeys : TraceValue → List OpName → (OpName → OpName → Bool) → Type 0
Obeys t names ordered = (m n : OpName) → IsSome (operation_at t m) → IsSome (operation_at t n) → ordered m n ≡ true → StandsBefore names m n

-- every legal schedule of the trace obeys the order
abbrev pub IsObeyed : TraceValue → (OpName → OpName → Bool) → Type 0
IsObeyed t ordered = (names : List OpName) → IsLegal t names → Obeys t names ordered

-- the order says no more of the operations of the trace than the forced order
abbrev pub IsWithinForced : TraceValue → (OpName → OpName → Bool) → Type 0
IsWithinForced t ordered = (m n : OpName) → IsSome (operation_at t m) → IsSome (operation_at t n) → ordered m n ≡ true → IsForced t m n

-- the order is the forced one: it says no more, and no less
pub record IsForcedOrder (t : TraceValue) (ordered : OpName → OpName → Bool) : Type 0 where
  pub within : IsWithinForced t ordered
  pub whole : (m n : OpName) → IsForced t m n → ordered m n ≡ true

-- the orders say the same of the operations of the trace
abbrev pub Agree : TraceValue → (OpName → OpName → Bool) → (OpName → OpName → Bool) → Type 0
Agree t first second = (m n : OpName) → IsSome (operation_at t m) → IsSome (operation_at t n) → first m n ≡ second m n

-- what the order puts before an operation, it puts before the later ones of that process
abbrev pub IsClosedForward : TraceValue → (OpName → OpName → Bool) → Type 0
IsClosedForward t ordered = (x m n : OpName) → IsSome (operation_at t x) → IsInProgramOrder t m n → ordered x m ≡ true → ordered x n ≡ true
