-- Which operations that wait for one another are refused, and what orders they ask for.
use Rattle.std.specs.Prelude.{◌≡◌, ◌<◌, ◌⊎◌, ℕ, List, [], Some}
use Rattle.std.specs.List.{Contains}
use Rattle.trace_semantics.specs.declared.operation.Op.{Op}
use Rattle.trace_semantics.specs.Operation.{location_of, value_read, origin_of}
use Rattle.trace_semantics.specs.Trace.{TraceValue}
use Rattle.writer_table.specs.declared.operation_place.OperationPlace.{OperationPlace}
use Rattle.order_clauses.specs.Numbered.{IsKnown}
use Rattle.order_clauses.specs.declared.order_pair.OrderPair.{OrderPair}
use Rattle.reason_clauses.specs.AddedOrders.{IsOrder}
use Rattle.reason_clauses.specs.Makers.{IsNumberOf}
use Rattle.reason_clauses.specs.Numbered.{at_number}
use Rattle.reason_clauses.specs.PossibleSources.{IsOther, IsPossibleSource}
use Rattle.reason_clauses.specs.RefusedBy.{IsMissingNumber}
use Rattle.reason_clauses.specs.declared.cause.ReasonCause.{ReasonCause}
use Rattle.reason_clauses.specs.declared.cause.ReasonCause.TheVariants.{BadCycle, BadLine, InitialLeft, SourceBefore}
use Rattle.reason_clauses.specs.declared.pieces.SourcePieces.{SourcePieces}
use Rattle.reason_counting.specs.OtherSources.{IsInitialOther, IsPartOrder, IsPartRefused}
use Rattle.reason_counting.specs.WaitingSet.{operations_of}
use Rattle.reason_counting.specs.declared.left_sources.LeftStretch.{LeftStretch}
use Rattle.reason_counting.specs.declared.waiting.Waiter.{Waiter}
use Rattle.reason_counting.specs.declared.waiting.WaitsFor.{WaitsFor}
use Rattle.reason_counting.specs.declared.waiting.WaitsFor.TheVariants.{Operation, Source}

-- n may come before all of the members: each member of its process comes after it there
abbrev pub MayComeFirst : TraceValue → List OperationPlace → OperationPlace → Type 0
MayComeFirst t members n = (m : OperationPlace) → Contains members m → IsKnown t m → m.process ≡ n.process → n.place < m.place

-- the trace has no operation n, or n may come before all of the members
abbrev pub IsBehindRefused : TraceValue → List OperationPlace → OperationPlace → ReasonCause → Type 0
IsBehindRefused t members n cause = IsMissingNumber t n cause ⊎ (MayComeFirst t members n × (cause ≡ SourceBefore))

-- one of the stretches begins with an operation that is refused
abbrev pub IsSomeBehindRefused : TraceValue → List OperationPlace → List LeftStretch → ReasonCause → Type 0
IsSomeBehindRefused t members stretches cause = (x : LeftStretch) × Contains stretches x × IsBehindRefused t members (at_number x.process x.first) cause

-- m waits for n: that is itself, the trace has no operation m, or n is refused
abbrev pub IsWaitRefused : TraceValue → List OperationPlace → OperationPlace → OperationPlace → ReasonCause → Type 0
IsWaitRefused t members m n cause = ((m ≡ n) × (cause ≡ BadCycle)) ⊎ (IsMissingNumber t m cause ⊎ IsBehindRefused t members n cause)

-- r waits for its sources: it is no reader, or a piece is refused; no piece takes the initial value, which it may read; or a source that no piece takes may come before all of the members
pub data IsSourceWaitRefused (t : TraceValue) (members : List OperationPlace) (r : OperationPlace) (pieces : SourcePieces) (cause : ReasonCause) : Type 0 where
  ByPieces : IsPartRefused t r pieces cause → IsSourceWaitRefused t members r pieces cause
  ByInitial : (op : Op) (d : ℕ) → IsNumberOf t r op → value_read op ≡ Some d → IsInitialOther t pieces (origin_of op) (location_of op) d → cause ≡ InitialLeft → IsSourceWaitRefused t members r pieces cause
  BySource : (op : Op) (d : ℕ) (w : OperationPlace) → IsNumberOf t r op → value_read op ≡ Some d → IsPossibleSource t r (origin_of op) (location_of op) d w → IsOther pieces w → MayComeFirst t members w → cause ≡ SourceBefore →
      IsSourceWaitRefused t members r pieces cause

-- what is wrong with one that waits
abbrev pub IsAwaitedRefused : TraceValue → List OperationPlace → OperationPlace → WaitsFor → ReasonCause → Type 0
IsAwaitedRefused t members m (Operation n) cause = IsWaitRefused t members m n cause
IsAwaitedRefused t members m (Source pieces) cause = IsSourceWaitRefused t members m pieces cause

-- a line `w`: it has no operation that waits, or one that waits is refused
abbrev pub IsWaitingRefused : TraceValue → List Waiter → ReasonCause → Type 0
IsWaitingRefused t waiters cause = ((waiters ≡ []) × (cause ≡ BadLine)) ⊎ ((w : Waiter) × Contains waiters w × IsAwaitedRefused t (operations_of waiters) w.operation w.awaited cause)

-- the orders that one that waits asks for: it stands before what it waits for, or what the pieces of its sources say
abbrev pub IsAwaitedOrder : TraceValue → OperationPlace → WaitsFor → OrderPair → Type 0
IsAwaitedOrder t m (Operation n) o = IsOrder m n o
IsAwaitedOrder t m (Source pieces) o = IsPartOrder t m pieces o

-- the orders that a line `w` asks for
abbrev pub IsWaitingOrder : TraceValue → List Waiter → OrderPair → Type 0
IsWaitingOrder t waiters o = (w : Waiter) × Contains waiters w × IsAwaitedOrder t w.operation w.awaited o
