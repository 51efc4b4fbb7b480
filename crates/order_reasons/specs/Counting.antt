-- Clauses by counting: more operations have a source each of its own than there are sources.
use Rattle.std.specs.Prelude.{◌≢◌, ◌<◌, ℕ, IsSome, List, length}
use Rattle.std.specs.List.{AllPairs, Contains}
use Rattle.trace_semantics.specs.declared.operation.OpName.{OpName}
use Rattle.trace_semantics.specs.Trace.{TraceValue}
use Rattle.trace_semantics.specs.ValueAfter.{value_left_at}
use Rattle.order_reasons.specs.Sources.{ValueSource, BarsSources, BarsLastWriters}

-- what needs a source of its own: an operation that reads a location and writes it, or the end of the schedule for a location
pub data NeedsSource : Type 0 where
  Update : OpName → NeedsSource
  End : List ℕ → NeedsSource

-- the clause bars all sources of this but those of the list
abbrev pub BarsAllBut : TraceValue → List (OpName × OpName) → List ValueSource → NeedsSource → Type 0
BarsAllBut t clause left (Update r) = ((location : List ℕ) × IsSome (value_left_at t location r)) × BarsSources t clause r (Contains left)
BarsAllBut t clause left (End location) = BarsLastWriters t clause location (Contains left)

-- these are more than the sources that the clause does not bar
pub record IsCountingClause (t : TraceValue) (clause : List (OpName × OpName)) (members : List NeedsSource) (left : List ValueSource) : Type 0 where
  pub distinct : AllPairs (λ (x y : NeedsSource). x ≢ y) members
  pub bars : (x : NeedsSource) → Contains members x → BarsAllBut t clause left x
  pub more : length left < length members
