-- Which readers with pieces and no main piece are refused, what orders they ask for, and which sources are left to them.
use Rattle.std.specs.Prelude.{◌≡◌, ◌⊎◌, true, ℕ, List, Some, None}
use Rattle.std.specs.List.{Contains}
use Rattle.trace_semantics.specs.declared.operation.Op.{Op}
use Rattle.trace_semantics.specs.declared.operation.Origin.{Origin}
use Rattle.trace_semantics.specs.Operation.{location_of, value_read, origin_of}
use Rattle.trace_semantics.specs.Trace.{TraceValue}
use Rattle.writer_table.specs.declared.operation_place.OperationPlace.{OperationPlace}
use Rattle.order_clauses.specs.declared.order_pair.OrderPair.{OrderPair}
use Rattle.reason_clauses.specs.AddedOrders.{AddsOnly}
use Rattle.reason_clauses.specs.Makers.{IsNumberOf}
use Rattle.reason_clauses.specs.Numbered.{at_number}
use Rattle.reason_clauses.specs.PossibleSources.{IsInitialPossible, IsOther, IsPossibleSource}
use Rattle.reason_clauses.specs.SourceRefused.{IsInitialOrder, IsNoReader, IsPartlyRefused, IsPieceOrder}
use Rattle.reason_clauses.specs.declared.cause.ReasonCause.{ReasonCause}
use Rattle.reason_clauses.specs.declared.pieces.SourcePieces.{SourcePieces}
use Rattle.reason_counting.specs.Left.{KeepsOnly}
use Rattle.reason_counting.specs.declared.left_sources.LeftSources.{LeftSources}
use Rattle.reason_counting.specs.declared.left_sources.LeftStretch.{LeftStretch}

-- the stretch begins and ends with a source of r that no piece takes
pub record IsOtherStretch (t : TraceValue) (r : OperationPlace) (pieces : SourcePieces) (origin : Origin) (location : List ℕ) (d : ℕ) (x : LeftStretch) : Type 0 where
  pub value_is : x.value ≡ d
  pub first : IsPossibleSource t r origin location d (at_number x.process x.first)
  pub first_other : IsOther pieces (at_number x.process x.first)
  pub last : IsPossibleSource t r origin location d (at_number x.process x.last)
  pub last_other : IsOther pieces (at_number x.process x.last)

-- only orders are appended that a piece of a process asks for, and only stretches of sources that no piece takes
abbrev pub TakesOnly : TraceValue → OperationPlace → SourcePieces → Origin → List ℕ → ℕ → List OrderPair → List OrderPair → List LeftStretch → List LeftStretch → Type 0
TakesOnly t r pieces origin location d old new left more = AddsOnly old new (IsPieceOrder t r pieces origin location d) × KeepsOnly left more (IsOtherStretch t r pieces origin location d)

-- the initial value is left: r may read it, and no piece takes it
abbrev pub IsInitialOther : TraceValue → SourcePieces → Origin → List ℕ → ℕ → Type 0
IsInitialOther t pieces origin location d = IsInitialPossible t origin location d × (pieces.initial ≡ None)

-- r is no reader, or its pieces are refused
abbrev pub IsPartRefused : TraceValue → OperationPlace → SourcePieces → ReasonCause → Type 0
IsPartRefused t r pieces cause = IsNoReader t r cause ⊎ ((op : Op) × (d : ℕ) × IsNumberOf t r op × (value_read op ≡ Some d) × IsPartlyRefused t r pieces (origin_of op) (location_of op) d cause)

-- the orders that its pieces ask for
abbrev pub IsPartOrder : TraceValue → OperationPlace → SourcePieces → OrderPair → Type 0
IsPartOrder t r pieces o =
    (op : Op) × (d : ℕ) × IsNumberOf t r op × (value_read op ≡ Some d) × (IsPieceOrder t r pieces (origin_of op) (location_of op) d o ⊎ IsInitialOrder t r pieces (origin_of op) (location_of op) d o)

-- what is left of its sources is what no piece takes
pub record AreOthers (t : TraceValue) (r : OperationPlace) (pieces : SourcePieces) (left : LeftSources) : Type 0 where
  pub op : Op
  pub value : ℕ
  pub number : IsNumberOf t r op
  pub reads : value_read op ≡ Some value
  pub location_is : left.location.now ≡ location_of op
  pub stretches : (x : LeftStretch) → Contains left.stretches.items x → IsOtherStretch t r pieces (origin_of op) (location_of op) value x
  pub initial : left.is_initial_left ≡ true → IsInitialOther t pieces (origin_of op) (location_of op) value
