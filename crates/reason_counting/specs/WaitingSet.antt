-- Operations of which each waits for one of them, by numbers.
use Rattle.std.specs.Prelude.{◌≤◌, ◌<◌, ℕ, List, length, map, slice_index_or}
use Rattle.std.specs.List.{All, Contains}
use Rattle.trace_semantics.specs.declared.operation.OpName.{OpName}
use Rattle.trace_semantics.specs.Trace.{TraceValue}
use Rattle.writer_table.specs.declared.operation_place.OperationPlace.{OperationPlace}
use Rattle.order_clauses.specs.declared.order_pair.OrderPair.{OrderPair}
use Rattle.order_clauses.specs.Numbered.{named, IsKnown}
use Rattle.order_reasons.specs.Waiting.{IsBehindOne, Waits}
use Rattle.reason_clauses.specs.Numbered.{AreIn, at_number}
use Rattle.reason_counting.specs.declared.left_sources.LeftStretch.{LeftStretch}
use Rattle.reason_counting.specs.declared.waiting.Waiter.{Waiter}

abbrev pub operations_of : List Waiter → List OperationPlace
operations_of waiters = map (λ (w : Waiter). w.operation) waiters

-- where the table has a place for a process, one of the members stands there
abbrev pub HoldMembers : List OperationPlace → List ℕ → Type 0
HoldMembers members first = (q : ℕ) → 1 ≤ slice_index_or first q 0 → Contains members (at_number q (slice_index_or first q 0))

-- where a member stands in a process of the table, the table has a place, which is not behind it
abbrev pub AreFirst : List OperationPlace → List ℕ → Type 0
AreFirst members first = (m : OperationPlace) → Contains members m → m.process < length first → 1 ≤ m.place → (1 ≤ slice_index_or first m.process 0) × (slice_index_or first m.process 0 ≤ m.place)

-- the same of each member of the trace
abbrev pub AreFirstKnown : TraceValue → List OperationPlace → List ℕ → Type 0
AreFirstKnown t members first = (m : OperationPlace) → Contains members m → IsKnown t m → (1 ≤ slice_index_or first m.process 0) × (slice_index_or first m.process 0 ≤ m.place)

-- the first operation of the stretch is a member, or comes after one in its process
abbrev pub IsStretchBehind : TraceValue → List OperationPlace → LeftStretch → Type 0
IsStretchBehind t members x = IsKnown t (at_number x.process x.first) × IsBehindOne t (map (named t) members) (named t (at_number x.process x.first))

abbrev pub AreBehind : TraceValue → List OperationPlace → List LeftStretch → Type 0
AreBehind t members stretches = All (λ (x : LeftStretch). IsStretchBehind t members x) stretches

-- by each clause that has the new orders, x does not come first of the members
abbrev pub MustWait : TraceValue → List OrderPair → List OperationPlace → OperationPlace → Type 0
MustWait t new members x = (clause : List (OpName × OpName)) → AreIn t new clause → Waits t clause (map (named t) members) (named t x)
