-- Clauses by waiting: none of some operations can be the first of them in a schedule.
use Rattle.std.specs.Prelude.{◌≢◌, IsSome, List, []}
use Rattle.std.specs.List.{Contains}
use Rattle.trace_semantics.specs.declared.operation.OpName.{OpName}
use Rattle.trace_semantics.specs.Trace.{TraceValue, operation_at}
use Rattle.order_reasons.specs.Reasons.{Says, IsUpTo}
use Rattle.order_reasons.specs.Sources.{ValueSource, LeftBy, InitialAt, BarsSources}

-- the operation is one of these, or comes after one in its process
abbrev pub IsBehindOne : TraceValue → List OpName → OpName → Type 0
IsBehindOne t members y = (z : OpName) × Contains members z × IsUpTo t z y

-- the value is left by an operation that is one of these, or comes after one in its process
abbrev pub ComesLater : TraceValue → List OpName → ValueSource → Type 0
ComesLater t members (LeftBy w) = IsBehindOne t members w
ComesLater t members (InitialAt location) = ⊥

-- x does not come first of these: an operation y behind one of them stands before it, or else the clause holds; or each of its sources does
pub data Waits (t : TraceValue) (clause : List (OpName × OpName)) (members : List OpName) (x : OpName) : Type 0 where
  ForOperation : (y : OpName) → x ≢ y → IsSome (operation_at t x) → IsBehindOne t members y → Says t clause x y → Waits t clause members x
  ForSource : BarsSources t clause x (ComesLater t members) → Waits t clause members x

pub record IsWaitingClause (t : TraceValue) (clause : List (OpName × OpName)) (members : List OpName) : Type 0 where
  pub some : members ≢ []
  pub each : (x : OpName) → Contains members x → Waits t clause members x
