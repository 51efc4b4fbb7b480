-- Which clauses the makers make.
use Rattle.std.specs.Prelude.{◌⊎◌, ℕ, List, [], ◌∷◌}
use Rattle.trace_semantics.specs.declared.operation.OpName.{OpName}
use Rattle.trace_semantics.specs.Trace.{TraceValue}
use Rattle.order_clauses.specs.declared.order_pair.OrderPair.{OrderPair}
use Rattle.order_reasons.specs.Reasons.{IsCycleClause}
use Rattle.order_reasons.specs.Sources.{IsLastClause, IsLostFinal}
use Rattle.reason_clauses.specs.Numbered.{AreIn}

-- each clause that has these orders is one of this kind
abbrev pub Makes : TraceValue → List OrderPair → (List (OpName × OpName) → Type 0) → Type 0
Makes t orders Is = (clause : List (OpName × OpName)) → AreIn t orders clause → Is clause

-- these operations, one at least, would be a cycle, and the clause says of each step that it is turned round
abbrev pub IsCycleOf : TraceValue → List OpName → List (OpName × OpName) → Type 0
IsCycleOf t [] clause = ⊥
IsCycleOf t (first ∷ rest) clause = IsCycleClause t clause first rest

-- the clause bars each operation that may be the location's last writer; or none writes there, and the final value is not the initial one
abbrev pub IsLastOf : TraceValue → List ℕ → List (OpName × OpName) → Type 0
IsLastOf t location clause = IsLastClause t clause location ⊎ IsLostFinal t location
