-- Which counted members are refused, and what orders they ask for.
use Rattle.std.specs.Prelude.{◌≡◌, ◌≢◌, ◌≤◌, ◌<◌, ◌+◌, ◌⊎◌, ℕ, List, length, Some, None, slice_index_or}
use Rattle.std.specs.List.{AllPairs, Contains}
use Rattle.trace_semantics.specs.declared.operation.Op.{Op}
use Rattle.trace_semantics.specs.Operation.{location_of, origin_of, value_read}
use Rattle.trace_semantics.specs.Trace.{TraceValue}
use Rattle.restriction.specs.Restriction.{left_by}
use Rattle.writer_table.specs.declared.operation_place.OperationPlace.{OperationPlace}
use Rattle.order_clauses.specs.declared.order_pair.OrderPair.{OrderPair}
use Rattle.reason_clauses.specs.LastRefused.{IsLastOrder, IsPossibleLast, late_taker}
use Rattle.reason_clauses.specs.Makers.{IsNumberOf}
use Rattle.reason_clauses.specs.PossibleSources.{IsOther, IsPossibleSource}
use Rattle.reason_clauses.specs.RefusedBy.{IsMissingNumber}
use Rattle.reason_clauses.specs.declared.cause.ReasonCause.{ReasonCause}
use Rattle.reason_clauses.specs.declared.cause.ReasonCause.TheVariants.{EnoughSources, NoReader, SecondPiece}
use Rattle.reason_clauses.specs.declared.pieces.SourcePieces.{SourcePieces}
use Rattle.reason_counting.specs.LeftEnds.{AreOtherEnds, IsEndRefused}
use Rattle.reason_counting.specs.OtherSources.{AreOthers, IsInitialOther, IsPartOrder, IsPartRefused}
use Rattle.reason_counting.specs.declared.counted_members.CountedMember.{CountedMember}
use Rattle.reason_counting.specs.declared.counted_members.CountedMember.TheVariants.{Update, End}
use Rattle.reason_counting.specs.declared.left_sources.LeftSources.{LeftSources}

-- the trace has no such operation, or it writes nothing
abbrev pub IsNoWriting : TraceValue → OperationPlace → ReasonCause → Type 0
IsNoWriting t r cause = IsMissingNumber t r cause ⊎ ((op : Op) × IsNumberOf t r op × (left_by (location_of op) op ≡ None) × (cause ≡ NoReader))

-- an update: it writes nothing or is no reader, or its pieces are refused; and the end of a location
abbrev pub IsMemberRefused : TraceValue → CountedMember → ReasonCause → Type 0
IsMemberRefused t (Update r pieces) cause = IsNoWriting t r cause ⊎ IsPartRefused t r pieces cause
IsMemberRefused t (End location pieces) cause = IsEndRefused t location.now pieces cause

-- the orders that the pieces of a member ask for
abbrev pub IsMemberOrder : TraceValue → CountedMember → OrderPair → Type 0
IsMemberOrder t (Update r pieces) o = IsPartOrder t r pieces o
IsMemberOrder t (End location pieces) o = IsLastOrder t location.now pieces o

-- what is left to the member is what no piece takes
abbrev pub AreLeftTo : TraceValue → CountedMember → LeftSources → Type 0
AreLeftTo t (Update r pieces) left = AreOthers t r pieces left
AreLeftTo t (End location pieces) left = AreOtherEnds t location.now pieces left

-- both are one update, or the end of one location
abbrev pub IsSameMember : CountedMember → CountedMember → Type 0
IsSameMember (Update m pieces) (Update n others) = m ≡ n
IsSameMember (Update m pieces) (End b others) = ⊥
IsSameMember (End a pieces) (Update n others) = ⊥
IsSameMember (End a pieces) (End b others) = a.now ≡ b.now

-- one of the members stands at two places
abbrev pub IsTwiceRefused : List CountedMember → ReasonCause → Type 0
IsTwiceRefused members cause =
    (i : ℕ) × (j : ℕ) × (d : CountedMember) × (i < j) × (j < length members) × IsSameMember (slice_index_or members i d) (slice_index_or members j d) × (cause ≡ SecondPiece)

-- one of the members is refused
abbrev pub IsSomeMemberRefused : TraceValue → List CountedMember → ReasonCause → Type 0
IsSomeMemberRefused t members cause = (m : CountedMember) × Contains members m × IsMemberRefused t m cause

-- no piece takes the operation w, which is a possible source of the member, or a possible last writer
abbrev pub IsLeftOperation : TraceValue → CountedMember → OperationPlace → Type 0
IsLeftOperation t (Update r pieces) w = (op : Op) × (d : ℕ) × IsNumberOf t r op × (value_read op ≡ Some d) × IsPossibleSource t r (origin_of op) (location_of op) d w × IsOther pieces w
IsLeftOperation t (End location pieces) w = IsPossibleLast t location.now w × (late_taker pieces w ≡ None)

-- no piece takes the initial value of the location, which is a possible source of the member
abbrev pub IsLeftInitial : TraceValue → CountedMember → List ℕ → Type 0
IsLeftInitial t (Update r pieces) a = (op : Op) × (d : ℕ) × IsNumberOf t r op × (value_read op ≡ Some d) × (a ≡ location_of op) × IsInitialOther t pieces (origin_of op) (location_of op) d
IsLeftInitial t (End location pieces) a = ⊥

-- it is left to one of the members
abbrev pub IsLeftToSome : TraceValue → List CountedMember → OperationPlace → Type 0
IsLeftToSome t members w = (m : CountedMember) × Contains members m × IsLeftOperation t m w

abbrev pub IsInitialToSome : TraceValue → List CountedMember → List ℕ → Type 0
IsInitialToSome t members a = (m : CountedMember) × Contains members m × IsLeftInitial t m a

-- these sources, of which none stands twice, are left to the members, and are no fewer than they are
pub record AreEnoughLeft (t : TraceValue) (members : List CountedMember) : Type 0 where
  pub operations : List OperationPlace
  pub locations : List (List ℕ)
  pub apart : AllPairs (λ (x y : OperationPlace). x ≢ y) operations
  pub locations_apart : AllPairs (λ (x y : List ℕ). x ≢ y) locations
  pub left : (w : OperationPlace) → Contains operations w → IsLeftToSome t members w
  pub initial : (a : List ℕ) → Contains locations a → IsInitialToSome t members a
  pub enough : length members ≤ length operations + length locations

-- a line `n`: a member stands twice, a member is refused, or there are enough sources
abbrev pub IsCountingRefused : TraceValue → List CountedMember → ReasonCause → Type 0
IsCountingRefused t members cause = IsTwiceRefused members cause ⊎ (IsSomeMemberRefused t members cause ⊎ ((cause ≡ EnoughSources) × AreEnoughLeft t members))

-- the orders that it asks for
abbrev pub IsCountingOrder : TraceValue → List CountedMember → OrderPair → Type 0
IsCountingOrder t members o = (m : CountedMember) × Contains members m × IsMemberOrder t m o
